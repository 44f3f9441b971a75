use Rattle.std.proofs.Common.{◌≡◌, ℕ, ◌+◌, ◌≤◌, List, [], ◌∷◌, ◌++◌, length, ap, ◌∙◌, ap₂, arith}
use Rattle.words.specs.declared.graph.Graph.{Graph}
use Rattle.words.specs.declared.graph.Output.{Output}
use Rattle.words.specs.Programs.{array_word, array_output_word, array_end_word}
use Rattle.words.proofs.Ranges.{ranges}
use Rattle.bench.specs.declared.retiming.Retiming.{Retiming}
use Rattle.bench.specs.Programs.{in_turn, line_at, cells, program_body, program}
use Rattle.bench.specs.Retimings.{output_delay}
use Rattle.bench.proofs.Emitting.{lines_long, cells_long}
use Rattle.bench.proofs.bench.Bench.program_words.Goals as goal

pub put_cells-requires : goal.put_cells-requires
put_cells-requires c =
    let g : Graph = c.args.self.now.design.graph in
    let lines = lines_long g c.args.self.now.retiming c.push.new.self.items (g.count + 1) c.put_lines.ensures in
    omega (arith, (ranges g c.args.self.now.design.sound).few, ap length c.new-program.ensures, c.push.ensures.len)

-- how many words stand before the output
few : (g : Graph) → g.count ≤ 32 → (p : Retiming) (none head lines cells' : List ℕ) → none ≡ [] → length head ≡ length none + 1 → lines ≡ head ++ in_turn (line_at g p) (g.count + 1) →
    cells' ≡ lines ++ cells g p g.count → length cells' ≤ 1122
few g m p none head lines cells' n h l c =
    omega (arith, ap length n, lines_long g p head (g.count + 1) l, cells_long g p lines g.count c)

pub push-requires-2 : goal.push-requires-2
push-requires-2 c =
    let g : Graph = c.args.self.now.design.graph in
    let long = few g (ranges g c.args.self.now.design.sound).few c.args.self.now.retiming _ _ _ _ c.new-program.ensures c.push.ensures.len c.put_lines.ensures c.put_cells.ensures in
    (omega arith, omega (arith, long))

pub push-requires-3 : goal.push-requires-3
push-requires-3 c =
    let g : Graph = c.args.self.now.design.graph in
    let long = few g (ranges g c.args.self.now.design.sound).few c.args.self.now.retiming _ _ _ _ c.new-program.ensures c.push.ensures.len c.put_lines.ensures c.put_cells.ensures in
    (omega arith, omega (arith, long, c.push-2.ensures.len))

pub returns : goal.returns
unfolding program
returns c =
    let g : Graph = c.args.self.now.design.graph in
    let p : Retiming = c.args.self.now.retiming in
    let head : c.push.new.self.items ≡ array_word g.count p.factor ∷ [] =
    c.push.ensures.items ∙ ap₂ (λ l v. l ++ v ∷ []) c.new-program.ensures (c.place_word.ensures ∙ ap (λ n. array_word n p.factor) c.count.ensures) in
    let upto = c.put_cells.ensures ∙ ap (λ l. l ++ cells g p g.count) (c.put_lines.ensures ∙ ap (λ l. l ++ in_turn (line_at g p) (g.count + 1)) head) in
    let word : c.place_word-2.result ≡ array_output_word g.output.node (output_delay g p) =
    c.place_word-2.ensures ∙ ap₂ array_output_word (ap (λ (o : Output). o.node) c.output-output.ensures) (c.from-delay.ensures ∙ c.output_delay.ensures) in
    let body : c.push-2.new.self.items ≡ program_body g p = c.push-2.ensures.items ∙ ap₂ (λ l v. l ++ v ∷ []) upto word in
    let count : c.len-count.result ≡ length (program_body g p) = c.len-count.ensures.value ∙ ap length body in
    c.push-3.ensures.items ∙ ap₂ (λ l v. l ++ v ∷ []) body (c.count_word.ensures ∙ ap (λ n. array_end_word (n + 1)) count)
