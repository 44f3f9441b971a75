-- What a design is: nodes with an operation and feeds, and an output. Its numbers and their ranges.
use Rattle.std.specs.Prelude.{◌≡◌, ℕ, ◌<◌, ◌≤◌, Bool, true, ◌||◌, [], length, replicate, Some, None, Option, ◌==◌, nat_lt, slice_index_or}
use Rattle.words.specs.declared.graph.Node.{Node}
use Rattle.words.specs.declared.graph.Graph.{Graph}

-- the most nodes of a design
abbrev pub max_nodes : ℕ
max_nodes = 32

-- the input's number as a source
abbrev pub input : ℕ
input = 32

-- how many sources a row of feeds has a place for
abbrev pub sources : ℕ
sources = 33

-- the limit of operations and of delays
abbrev pub byte : ℕ
byte = 256

-- the sources of a design of n nodes are those nodes and the input
abbrev pub is_source : ℕ → ℕ → Bool
is_source n j = nat_lt j n || j == input

-- a node with no feed and operation 0: what stands in the table past a design's nodes
abbrev pub blank : Node
blank = record { operation = 0; feeds = replicate sources None }

-- what is read past the table's end
abbrev pub absent : Node
absent = record { operation = 0; feeds = [] }

abbrev pub node_at : Graph → ℕ → Node
node_at g i = slice_index_or g.nodes i absent

-- the delay of node i's feed from source j, if there is one
abbrev pub feed_at : Graph → ℕ → ℕ → Option ℕ
feed_at g i j = slice_index_or (node_at g i).feeds j None

-- a node of a design of n nodes
pub record NodeInRange (n : ℕ) (node : Node) : Type 0 where
  pub operation : node.operation < byte
  pub row : length node.feeds ≡ sources
  pub delays : (j d : ℕ) → slice_index_or node.feeds j None ≡ Some d → d < byte
  pub heard : (j d : ℕ) → slice_index_or node.feeds j None ≡ Some d → is_source n j ≡ true

-- a design's fields are in range; its table holds nothing past its nodes
pub record InRange (g : Graph) : Type 0 where
  pub some : 1 ≤ g.count
  pub few : g.count ≤ max_nodes
  pub table : length g.nodes ≡ max_nodes
  pub nodes : (i : ℕ) → i < max_nodes → NodeInRange g.count (node_at g i)
  pub rest : (i : ℕ) → g.count ≤ i → i < max_nodes → node_at g i ≡ blank
  pub output_node : g.output.node < g.count
  pub output_delay : g.output.delay < byte
