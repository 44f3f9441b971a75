-- A draft's words begin a design.
use Rattle.std.proofs.Common.{◌≡◌, ℕ, ◌+◌, List, [], ◌∷◌, ◌++◌, length, take, drop, Some, None, sym, ap, ◌∙◌, ⊎_elim, append_assoc}
use Rattle.std.proofs.lemmas.List.{take-take, take-append-drop}
use Rattle.words.specs.declared.graph.Node.{Node}
use Rattle.words.specs.declared.graph.Output.{Output}
use Rattle.words.specs.declared.graph.Graph.{Graph}
use Rattle.words.specs.declared.draft.Draft.{Draft}
use Rattle.words.specs.Encoding.{head_word, output_word, end_word, node_words, body, encoded}
use Rattle.words.specs.Designs.{InRange}
use Rattle.words.specs.Drafts.{drafted, finished, Sound}
use Rattle.words.specs.Reading.{Begins}
use Rattle.words.proofs.Drafting.{open_words, output_cases, finished_words, finished_in_range}
use Rattle.words.proofs.Encodings.{nodes_join}

-- a draft's words begin a design: the one with its output, or with any while there is none
pub begins : (d : Draft) → Sound d → Begins (drafted d)
unfolding encoded
begins d s =
    let h : ℕ = head_word d.graph.count in
    let r : InRange d.graph = s.ranges in
    ⊎_elim
    (λ (c : d.output ≡ None).
    let o : ℕ = output_word d.graph.output in
    let e : ℕ = end_word (length (body d.graph) + 1) in
    let front : List Node = take d.seen d.graph.nodes in
    let back : List Node = drop d.seen (take d.graph.count d.graph.nodes) in
    let split : take d.graph.count d.graph.nodes ≡ front ++ back =
    sym (take-append-drop d.seen (take d.graph.count d.graph.nodes)) ∙ ap (λ l. l ++ back) (take-take d.seen d.graph.count d.graph.nodes s.seen) in
    let more : List ℕ = node_words (0 + length front) back in (
      d.graph,
      more ++ (o ∷ (e ∷ [])),
      r,
      ap (λ ws. h ∷ ws)
          (ap (λ l. (node_words 0 l ++ o ∷ []) ++ e ∷ []) split ∙ ap (λ l. (l ++ o ∷ []) ++ e ∷ []) (nodes_join 0 front back)
          ∙ append_assoc (node_words 0 front ++ more) (o ∷ []) (e ∷ []) ∙ append_assoc (node_words 0 front) more (o ∷ (e ∷ [])))
          ∙ ap (λ ws. ws ++ (more ++ (o ∷ (e ∷ [])))) (sym (open_words d c)),
    ))
    (λ (there : (x : Output) × (d.output ≡ Some x)).
    let g : Graph = finished d there.0 in
    let e : ℕ = end_word (length (body g) + 1) in (
      g,
      e ∷ [],
      finished_in_range d s there.0 there.1,
      ap (λ ws. ws ++ e ∷ []) (sym (finished_words d s there.0 there.1)),
    ))
    (output_cases d.output)
