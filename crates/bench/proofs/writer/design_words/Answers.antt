use Rattle.std.proofs.Common.{◌≡◌, ℕ, ◌+◌, ◌≤◌, List, [], ◌∷◌, ◌++◌, length, get_or, take, sym, ap, ◌∙◌, ap₂, arith}
use Rattle.std.proofs.lemmas.List.{append-nil, length-append, length-take-le, length_push, take_all}
use Rattle.words.specs.declared.graph.Graph.{Graph}
use Rattle.words.specs.declared.graph.Node.{Node}
use Rattle.words.specs.Designs.{InRange, absent}
use Rattle.words.specs.Encoding.{head_word, node_word, output_word, end_word, feed_words, node_words, body, encoded}
use Rattle.words.specs.Fields.{place_word}
use Rattle.words.proofs.Ranges.{ranges}
use Rattle.bench.proofs.Writing.{appended, nodes_more, nodes_so_far, size_few, size_is}
use Rattle.bench.proofs.writer.design_words.Goals as goal
use Rattle.bench.proofs.writer.design_words.Goals.{After-push, After-loop-number, After-push-2}

headed : (c : After-push) → c.push.new.self.items ≡ head_word c.args.design.now.graph.count ∷ []
headed c = c.push.ensures.items ∙ ap₂ (λ ws w. ws ++ w ∷ []) c.new-words.ensures (c.count_word.ensures ∙ ap head_word c.count.ensures)

pub loop-number-init : goal.loop-number-init
unfolding node_words
loop-number-init c = sym (append-nil _)

pub put_node-requires-clause-room : goal.put_node-requires-clause-room
put_node-requires-clause-room c =
    let g : Graph = c.args.design.now.graph in
    let r : InRange g = ranges g c.args.design.now.sound in
    let k : ℕ = c.loop-number.number in
    let few = nodes_so_far g r k in
    let nodes : length (node_words 0 (take k c.nodes-node-items.result.now)) ≡ length (node_words 0 (take k (take g.count g.nodes))) = ap (λ ns. length (node_words 0 (take k ns))) c.nodes-node-items.ensures in
    let whole : length c.nodes-node-items.result.now ≡ length (take g.count g.nodes) = ap length c.nodes-node-items.ensures in
    let head : length c.push.new.self.items ≡ 1 = ap length (headed (goal.at.put_node-requires-clause-room c).After-push) in
    let long : length c.loop-number.words.items ≡ length c.push.new.self.items + length (node_words 0 (take k c.nodes-node-items.result.now)) =
    ap length c.loop-number.invariant ∙ length-append c.push.new.self.items (node_words 0 (take k c.nodes-node-items.result.now)) in
    omega (arith, r.few, length-take-le g.count g.nodes (omega (arith, r.few, r.table)))

pub loop-number-preserved : goal.loop-number-preserved
loop-number-preserved c =
    let ns : List Node = c.nodes-node-items.result.now in
    let k : ℕ = c.loop-number.number in
    let node : Node = get_or ns k absent in
    let before : List ℕ = c.push.new.self.items in
    appended before (node_words 0 (take k ns)) (node_word k node.operation ∷ feed_words 0 node.feeds) c.loop-number.invariant c.put_node.ensures
    ∙ ap (λ ws. before ++ ws) (sym (nodes_more ns k c.loop-number-test.true))

-- what stands before the output
noded : (g : Graph) (none head all : List ℕ) (n w k : ℕ) (ns : List Node) → none ≡ [] → n ≡ g.count → w ≡ head_word n → head ≡ none ++ w ∷ [] → ns ≡ take g.count g.nodes →
    length ns ≤ k → all ≡ head ++ node_words 0 (take k ns) → all ≡ head_word g.count ∷ node_words 0 (take g.count g.nodes)
noded g none head all n w k ns empty count word pushed nodes end inv =
    inv ∙ ap₂ (λ ws xs. ws ++ node_words 0 xs) (pushed ∙ ap₂ (λ ws v. ws ++ v ∷ []) empty (word ∙ ap head_word count)) (take_all k ns end ∙ nodes)

nodes_stand : (c : After-loop-number) → c.loop-number.words.items ≡ head_word c.args.design.now.graph.count ∷ node_words 0 (take c.args.design.now.graph.count c.args.design.now.graph.nodes)
nodes_stand c =
    noded c.args.design.now.graph _ _ _ _ _ _ _ c.new-words.ensures c.count.ensures c.count_word.ensures c.push.ensures.items c.nodes-node-items.ensures c.loop-number-test.false c.loop-number.invariant

-- what stands before the end
body_stands : (c : After-push-2) → c.push-2.new.self.items ≡ body c.args.design.now.graph
body_stands c =
    let nodes = noded c.args.design.now.graph _ _ _ _ _ _ _ c.new-words.ensures c.count.ensures c.count_word.ensures c.push.ensures.items c.nodes-node-items.ensures c.loop-number-test.false c.loop-number.invariant in
    let delay : c.from.result ≡ c.output-output.result.delay = c.from.ensures in
    c.push-2.ensures.items ∙ ap₂ (λ ws w. ws ++ w ∷ []) nodes (c.place_word.ensures ∙ ap (place_word 4 c.output-output.result.node) delay ∙ ap output_word c.output-output.ensures)

pub push-requires-2 : goal.push-requires-2
push-requires-2 c =
    let g : Graph = c.args.design.now.graph in
    let r : InRange g = ranges g c.args.design.now.sound in
    let long = ap length (nodes_stand (goal.at.push-requires-2 c).After-loop-number) in
    (omega arith, omega (arith, size_few g r, size_is g r, length_push (head_word g.count ∷ node_words 0 (take g.count g.nodes)) (output_word g.output)))

pub count_word-requires-2 : goal.count_word-requires-2
count_word-requires-2 c =
    let g : Graph = c.args.design.now.graph in
    omega (arith, size_few g (ranges g c.args.design.now.sound), c.size.ensures)

pub push-requires-3 : goal.push-requires-3
push-requires-3 c =
    let g : Graph = c.args.design.now.graph in
    let r : InRange g = ranges g c.args.design.now.sound in
    let long = ap length (body_stands (goal.at.push-requires-3 c).After-push-2) in
    (omega arith, omega (arith, size_few g r, size_is g r))

pub returns : goal.returns
unfolding encoded
returns c =
    let g : Graph = c.args.design.now.graph in
    let size : c.size.result ≡ length (body g) + 1 = c.size.ensures ∙ size_is g (ranges g c.args.design.now.sound) in
    c.push-3.ensures.items ∙ ap₂ (λ ws w. ws ++ w ∷ []) (body_stands (goal.at.returns c).After-push-2) (c.count_word-2.ensures ∙ ap end_word size)
