-- The words of a design.
use Rattle.std.specs.Prelude.{ℕ, suc, ◌+◌, ◌*◌, ◌^◌, List, [], ◌∷◌, ◌++◌, length, take, Some, None, Option}
use Rattle.words.specs.declared.graph.Node.{Node}
use Rattle.words.specs.declared.graph.Output.{Output}
use Rattle.words.specs.declared.graph.Graph.{Graph}
use Rattle.words.specs.Fields.{word_of, place_word}

-- kind 1: the number of nodes in bits 5 to 0
abbrev pub head_word : ℕ → ℕ
head_word n = word_of 1 n

-- kind 2: the node's number in bits 4 to 0, its operation in bits 12 to 5
abbrev pub node_word : ℕ → ℕ → ℕ
node_word i operation = word_of 2 (operation * 2 ^ 5 + i)

-- kind 3: the source in bits 5 to 0, the delay in bits 13 to 6
abbrev pub feed_word : ℕ → ℕ → ℕ
feed_word j delay = place_word 3 j delay

-- kind 4: the node in bits 5 to 0, the delay in bits 13 to 6
abbrev pub output_word : Output → ℕ
output_word o = place_word 4 o.node o.delay

-- kind 5: the number of words in bits 10 to 0
abbrev pub end_word : ℕ → ℕ
end_word count = word_of 5 count

-- a row of feeds from source j on: a word for each feed that is there, in ascending order of source
unfoldable pub feed_words : ℕ → List (Option ℕ) → List ℕ
feed_words j [] = []
feed_words j (None ∷ fs) = feed_words (suc j) fs
feed_words j (Some d ∷ fs) = feed_word j d ∷ feed_words (suc j) fs

-- the nodes from number i on, each followed by its feeds
unfoldable pub node_words : ℕ → List Node → List ℕ
node_words i [] = []
node_words i (node ∷ nodes) = node_word i node.operation ∷ feed_words 0 node.feeds ++ node_words (suc i) nodes

-- all but the end: the head, the nodes with their feeds, the output
abbrev pub body : Graph → List ℕ
body g = head_word g.count ∷ node_words 0 (take g.count g.nodes) ++ output_word g.output ∷ []

-- the words of a design; the end counts itself
unfoldable pub encoded : Graph → List ℕ
encoded g = body g ++ end_word (length (body g) + 1) ∷ []
