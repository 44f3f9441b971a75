-- A design as far as its words have been read, and what the reader keeps of it.
use Rattle.std.specs.Prelude.{◌≡◌, ℕ, suc, ◌+◌, ◌-◌, ◌<◌, ◌≤◌, Bool, not, ◌&&◌, List, [], ◌∷◌, ◌++◌, length, take, replicate, is_some, Some, None, Option, nat_lt, slice_set}
use Rattle.words.specs.declared.graph.Node.{Node}
use Rattle.words.specs.declared.graph.Output.{Output}
use Rattle.words.specs.declared.graph.Graph.{Graph}
use Rattle.words.specs.declared.draft.Draft.{Draft}
use Rattle.words.specs.Designs.{InRange, blank, node_at, feed_at, max_nodes, byte}
use Rattle.words.specs.Encoding.{head_word, output_word, node_words}
use Rattle.words.specs.Questions.{count_of, nodes_in, least_source, in_node, after_output}

-- the word of an output, once there is one
abbrev pub output_words : Option Output → List ℕ
output_words None = []
output_words (Some output) = output_word output ∷ []

-- the words that a draft was read from
abbrev pub drafted : Draft → List ℕ
drafted d = (head_word d.graph.count ∷ node_words 0 (take d.seen d.graph.nodes)) ++ output_words d.output

-- how far the words so far have come: the nodes there are to be, the nodes there were, the least source of a next feed, whether the output was there
pub record Stands (before : List ℕ) (n seen from : ℕ) (complete : Bool) : Type 0 where
  pub some : 0 < length before
  pub count : count_of before ≡ n
  pub nodes : nodes_in before ≡ seen
  pub least : least_source before ≡ from
  pub node : in_node before ≡ (nat_lt 0 seen && not complete)
  pub output : after_output before ≡ complete

-- what the reader keeps: a design in range, blank where nothing was read yet
pub record Sound (d : Draft) : Type 0 where
  pub ranges : InRange d.graph
  pub seen : d.seen ≤ d.graph.count
  pub rest : (i : ℕ) → d.seen ≤ i → i < max_nodes → node_at d.graph i ≡ blank
  pub least : d.output ≡ None → (k j : ℕ) → suc k ≡ d.seen → d.least ≤ j → feed_at d.graph k j ≡ None
  pub output : (o : Output) → d.output ≡ Some o → (d.seen ≡ d.graph.count) × (o.node < d.graph.count) × (o.delay < byte)
  pub stands : Stands (drafted d) d.graph.count d.seen d.least (is_some d.output)

-- a graph with another node in its table
abbrev pub with_node : Graph → ℕ → Node → Graph
with_node g i node = record { count = g.count; nodes = slice_set g.nodes i node; output = g.output }

-- the next node read
abbrev pub node_read : Draft → ℕ → Draft
node_read d operation =
    record {
      graph = with_node d.graph d.seen (record { operation = operation; feeds = (node_at d.graph d.seen).feeds });
      seen = d.seen + 1;
      least = 0;
      output = d.output;
    }

-- a feed of the last node read
abbrev pub feed_read : Draft → ℕ → ℕ → Draft
feed_read d source delay =
    record {
      graph =
          with_node d.graph (d.seen - 1)
          (record { operation = (node_at d.graph (d.seen - 1)).operation; feeds = slice_set (node_at d.graph (d.seen - 1)).feeds source (Some delay) });
      seen = d.seen;
      least = source + 1;
      output = d.output;
    }

-- the output read
abbrev pub output_read : Draft → Output → Draft
output_read d output = record { graph = d.graph; seen = d.seen; least = 0; output = Some output }

-- a design of n nodes, of which none was read yet
abbrev pub headed : ℕ → Draft
headed n =
    record { graph = record { count = n; nodes = replicate max_nodes blank; output = record { node = 0; delay = 0 } }; seen = 0; least = 0; output = None }

-- the design of a draft with that output
abbrev pub finished : Draft → Output → Graph
finished d output = record { count = d.graph.count; nodes = d.graph.nodes; output = output }
