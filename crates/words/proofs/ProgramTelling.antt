-- Two programs in range with the same words are the same program.
use Rattle.std.proofs.Common.{◌≡◌, ℕ, suc, ◌+◌, ◌*◌, ◌^◌, ◌<◌, ◌≤◌, true, false, List, [], ◌∷◌, ◌++◌, length, Some, sym, refl, ap, ap₂, ◌∙◌, subst, append_assoc, arith}
use Rattle.std.specs.List.{All}
use Rattle.std.proofs.lemmas.Bool.{both_ways}
use Rattle.words.specs.declared.program_table.Tap.{Tap}
use Rattle.words.specs.declared.program_table.Cell.{Cell}
use Rattle.words.specs.declared.program_table.ProgramTable.{ProgramTable}
use Rattle.words.specs.declared.kinds.ProgramKind.TheVariants as kind
use Rattle.words.specs.Fields.{field}
use Rattle.words.specs.Designs.{max_nodes}
use Rattle.words.specs.Programs.{cell_word, tap_word, array_output_word, array_end_word}
use Rattle.words.specs.ProgramKinds.{program_kind_of, is_tap}
use Rattle.words.specs.ProgramTables.{TapInRange, CellInRange, ProgramInRange, max_delay}
use Rattle.words.specs.ProgramEncoding.{line_source, line_words, tap_words, cell_words, program_body, encoded_program}
use Rattle.words.proofs.Wholes.{low_field, high_field}
use Rattle.words.proofs.Telling.{first_same, rest_same}
use Rattle.words.proofs.ProgramWholes.{program_kind_made, cell_node, cell_operation, cell_lag}
use Rattle.words.proofs.Sources.{source_place}
use Rattle.words.proofs.ProgramEncodings.{line_heard}

-- these words do not go on with a tap
abbrev NoTap : List ℕ → Type 0
NoTap [] = Unit {0}
NoTap (w ∷ ws) = is_tap (program_kind_of w) ≡ false

module _ (n : ℕ) (few : n ≤ max_nodes) where
  lines_tell : (ls ms : List ℕ) (k : ℕ) (ws vs : List ℕ) → length ls ≡ length ms → k + length ls ≤ n + 1 → All (λ l. l ≤ max_delay) ls → All (λ l. l ≤ max_delay) ms →
      line_words n k ls ++ ws ≡ line_words n k ms ++ vs → (ls ≡ ms) × (ws ≡ vs)
  unfolding line_words
  lines_tell [] [] k ws vs long room sl sm q = (refl, q)
  lines_tell [] (m ∷ ms) k ws vs long room sl sm q = absurd (omega arith)
  lines_tell (l ∷ ls) [] k ws vs long room sl sm q = absurd (omega arith)
  lines_tell (l ∷ ls) (m ∷ ms) k ws vs long room sl sm q =
      let j : ℕ = line_source n k in
      let place = source_place n j few (line_heard n k (omega arith)) in
      let here : l ≡ m =
      sym (high_field 6 12 10 9 j l refl (omega arith) (omega (arith, sl 0 l (omega arith)))) ∙ ap (field 6 12) (first_same q) ∙ high_field 6 12 10 9 j m refl (omega arith) (omega (arith, sm 0 m (omega arith))) in
      let rest = lines_tell ls ms (suc k) ws vs (omega arith) (omega arith) (λ i d h. sl (suc i) d (omega arith)) (λ i d h. sm (suc i) d (omega arith)) (rest_same q) in
      (ap₂ (λ a b. a ∷ b) here rest.0, rest.1)

  tap_kind : (t : Tap) → TapInRange n t → is_tap (program_kind_of (tap_word t.source t.delay)) ≡ true
  tap_kind t r =
      let place = source_place n t.source few r.source in
      ap is_tap (program_kind_made (Some kind.Tap) (t.delay * 2 ^ 6 + t.source) (omega (arith, r.delay)))

  taps_tell : (ts us : List Tap) (ws vs : List ℕ) → All (TapInRange n) ts → All (TapInRange n) us → NoTap ws → NoTap vs → tap_words ts ++ ws ≡ tap_words us ++ vs → (ts ≡ us) × (ws ≡ vs)
  taps_tell [] [] ws vs et eu nw nv q = (refl, q)
  taps_tell [] (u ∷ us) ws vs et eu nw nv q = absurd (both_ways (is_tap (program_kind_of (tap_word u.source u.delay))) (subst NoTap q nw) (tap_kind u (eu 0 u (omega arith))))
  taps_tell (t ∷ ts) [] ws vs et eu nw nv q = absurd (both_ways (is_tap (program_kind_of (tap_word t.source t.delay))) (subst NoTap (sym q) nv) (tap_kind t (et 0 t (omega arith))))
  taps_tell (t ∷ ts) (u ∷ us) ws vs et eu nw nv q =
      let rt : TapInRange n t = et 0 t (omega arith) in
      let ru : TapInRange n u = eu 0 u (omega arith) in
      let pt = source_place n t.source few rt.source in
      let pu = source_place n u.source few ru.source in
      let w = first_same q in
      let source : t.source ≡ u.source =
      sym (low_field 6 12 10 11 t.source t.delay refl (omega arith) (omega (arith, rt.delay))) ∙ ap (field 0 6) w ∙ low_field 6 12 10 11 u.source u.delay refl (omega arith) (omega (arith, ru.delay)) in
      let delay : t.delay ≡ u.delay =
      sym (high_field 6 12 10 11 t.source t.delay refl (omega arith) (omega (arith, rt.delay))) ∙ ap (field 6 12) w ∙ high_field 6 12 10 11 u.source u.delay refl (omega arith) (omega (arith, ru.delay)) in
      let rest = taps_tell ts us ws vs (λ i d h. et (suc i) d (omega arith)) (λ i d h. eu (suc i) d (omega arith)) nw nv (rest_same q) in
      let here : t ≡ u = λ i. record { source = source i; delay = delay i } in
      (ap₂ (λ a b. a ∷ b) here rest.0, rest.1)

  cell_kind : (c : Cell) → CellInRange n c → is_tap (program_kind_of (cell_word c.node c.operation c.lag)) ≡ false
  cell_kind c r = ap is_tap (program_kind_made (Some kind.Cell) (c.lag * 2 ^ 13 + c.operation * 2 ^ 5 + c.node) (omega (arith, r.node, r.operation, r.lag)))

  -- what follows a cell's taps is no tap
  no_tap : (cs : List Cell) (ws : List ℕ) → All (CellInRange n) cs → NoTap ws → NoTap (cell_words cs ++ ws)
  unfolding cell_words
  no_tap [] ws each none = none
  no_tap (c ∷ cs) ws each none = cell_kind c (each 0 c (omega arith))

  cells_tell : (cs ds : List Cell) (ws vs : List ℕ) → length cs ≡ length ds → All (CellInRange n) cs → All (CellInRange n) ds → NoTap ws → NoTap vs →
      cell_words cs ++ ws ≡ cell_words ds ++ vs → (cs ≡ ds) × (ws ≡ vs)
  unfolding cell_words
  cells_tell [] [] ws vs long ec ed nw nv q = (refl, q)
  cells_tell [] (d ∷ ds) ws vs long ec ed nw nv q = absurd (omega arith)
  cells_tell (c ∷ cs) [] ws vs long ec ed nw nv q = absurd (omega arith)
  cells_tell (c ∷ cs) (d ∷ ds) ws vs long ec ed nw nv q =
      let rc : CellInRange n c = ec 0 c (omega arith) in
      let rd : CellInRange n d = ed 0 d (omega arith) in
      let fc : c.node < 32 = omega (arith, rc.node) in
      let fd : d.node < 32 = omega (arith, rd.node) in
      let gc : c.lag < 4096 = omega (arith, rc.lag) in
      let gd : d.lag < 4096 = omega (arith, rd.lag) in
      let w = first_same q in
      let node : c.node ≡ d.node =
      sym (cell_node c.node c.operation c.lag fc rc.operation gc) ∙ ap (field 0 5) w ∙ cell_node d.node d.operation d.lag fd rd.operation gd in
      let operation : c.operation ≡ d.operation =
      sym (cell_operation c.node c.operation c.lag fc rc.operation gc) ∙ ap (field 5 8) w ∙ cell_operation d.node d.operation d.lag fd rd.operation gd in
      let lag : c.lag ≡ d.lag = sym (cell_lag c.node c.operation c.lag fc rc.operation gc) ∙ ap (field 13 12) w ∙ cell_lag d.node d.operation d.lag fd rd.operation gd in
      let tails = sym (append_assoc (tap_words c.taps.items) (cell_words cs) ws) ∙ rest_same q ∙ append_assoc (tap_words d.taps.items) (cell_words ds) vs in
      let taps =
      taps_tell c.taps.items d.taps.items (cell_words cs ++ ws) (cell_words ds ++ vs) rc.taps rd.taps (no_tap cs ws (λ i e h. ec (suc i) e (omega arith)) nw)
      (no_tap ds vs (λ i e h. ed (suc i) e (omega arith)) nv) tails in
      let rest = cells_tell cs ds ws vs (omega arith) (λ i e h. ec (suc i) e (omega arith)) (λ i e h. ed (suc i) e (omega arith)) nw nv taps.1 in
      let here : c ≡ d = λ i. record { node = node i; operation = operation i; lag = lag i; taps = record { items = taps.0 i } } in
      (ap₂ (λ a b. a ∷ b) here rest.0, rest.1)

pub programs_tell : (p q : ProgramTable) → ProgramInRange p → ProgramInRange q → encoded_program p ≡ encoded_program q → p ≡ q
unfolding encoded_program
programs_tell p q r s same =
    let head = first_same same in
    let count : p.count ≡ q.count =
    sym (low_field 6 7 15 8 p.count p.factor refl (omega (arith, r.few)) (omega (arith, r.slow))) ∙ ap (field 0 6) head ∙ low_field 6 7 15 8 q.count q.factor refl (omega (arith, s.few)) (omega (arith, s.slow)) in
    let factor : p.factor ≡ q.factor =
    sym (high_field 6 7 15 8 p.count p.factor refl (omega (arith, r.few)) (omega (arith, r.slow))) ∙ ap (field 6 7) head ∙ high_field 6 7 15 8 q.count q.factor refl (omega (arith, s.few)) (omega (arith, s.slow)) in
    let lp : List ℕ = line_words p.count 0 p.lines.items in
    let lq : List ℕ = line_words p.count 0 q.lines.items in
    let cp : List ℕ = cell_words p.cells.items in
    let cq : List ℕ = cell_words q.cells.items in
    let o : ℕ = array_output_word p.output.source p.output.delay in
    let u : ℕ = array_output_word q.output.source q.output.delay in
    let e : ℕ = array_end_word (length (program_body p) + 1) in
    let f : ℕ = array_end_word (length (program_body q) + 1) in
    let tails : lp ++ (cp ++ (o ∷ (e ∷ []))) ≡ lq ++ (cq ++ (u ∷ (f ∷ []))) =
    sym (append_assoc (lp ++ cp) (o ∷ []) (e ∷ []) ∙ append_assoc lp cp (o ∷ (e ∷ []))) ∙ rest_same same
    ∙ append_assoc (line_words q.count 0 q.lines.items ++ cq) (u ∷ []) (f ∷ []) ∙ append_assoc (line_words q.count 0 q.lines.items) cq (u ∷ (f ∷ []))
    ∙ ap (λ m. line_words m 0 q.lines.items ++ (cq ++ (u ∷ (f ∷ [])))) (sym count) in
    let lines =
    lines_tell p.count r.few p.lines.items q.lines.items 0 (cp ++ (o ∷ (e ∷ []))) (cq ++ (u ∷ (f ∷ []))) (omega (arith, r.lines, s.lines)) (omega (arith, r.lines)) r.lengths s.lengths tails in
    let cells =
    cells_tell p.count r.few p.cells.items q.cells.items (o ∷ (e ∷ [])) (u ∷ (f ∷ [])) (omega (arith, r.cells, s.cells)) r.ranges (subst (λ m. All (CellInRange m) q.cells.items) (sym count) s.ranges)
    (ap is_tap (program_kind_made (Some kind.Output) (p.output.delay * 2 ^ 6 + p.output.source) (omega (arith, r.output_delay, r.output_node, r.few))))
    (ap is_tap (program_kind_made (Some kind.Output) (q.output.delay * 2 ^ 6 + q.output.source) (omega (arith, s.output_delay, s.output_node, s.few)))) lines.1 in
    let out : o ≡ u = first_same cells.1 in
    let source : p.output.source ≡ q.output.source =
    sym (low_field 6 12 10 12 p.output.source p.output.delay refl (omega (arith, r.output_node, r.few)) (omega (arith, r.output_delay))) ∙ ap (field 0 6) out
    ∙ low_field 6 12 10 12 q.output.source q.output.delay refl (omega (arith, s.output_node, s.few)) (omega (arith, s.output_delay)) in
    let delay : p.output.delay ≡ q.output.delay =
    sym (high_field 6 12 10 12 p.output.source p.output.delay refl (omega (arith, r.output_node, r.few)) (omega (arith, r.output_delay))) ∙ ap (field 6 12) out
    ∙ high_field 6 12 10 12 q.output.source q.output.delay refl (omega (arith, s.output_node, s.few)) (omega (arith, s.output_delay)) in
    λ i. record { count = count i; factor = factor i; lines = record { items = lines.0 i }; cells = record { items = cells.0 i }; output = record { source = source i; delay = delay i } }
