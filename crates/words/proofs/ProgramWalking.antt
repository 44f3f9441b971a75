-- Every word of a program's encoding passes the questions.
use Rattle.std.proofs.Common.{◌≡◌, ℕ, suc, ◌+◌, ◌*◌, ◌^◌, ◌<◌, ◌≤◌, true, false, not, ◌&&◌, eqb, ltb, leb, ◌≢◌, List, [], ◌∷◌, ◌++◌, length, Some, None, cond, sym, refl, ap, ap₂, ◌∙◌, subst, append_assoc, add-zero, add-suc, suc-add, add-one, arith}
use Rattle.std.specs.List.{All, AllPairs}
use Rattle.std.specs.Set.{is_member}
use Rattle.std.specs.Option.{option_or}
use Rattle.std.proofs.lemmas.List.{append-nil, length_push, length-map}
use Rattle.std.proofs.lemmas.Bool.{lt-ltb, le-leb, eq-eqb, and_from}
use Rattle.words.specs.declared.program_table.Tap.{Tap}
use Rattle.words.specs.declared.program_table.Cell.{Cell}
use Rattle.words.specs.declared.program_table.ProgramTable.{ProgramTable}
use Rattle.words.specs.declared.kinds.ProgramKind.TheVariants as kind
use Rattle.words.specs.Fields.{field}
use Rattle.words.specs.Designs.{is_source, max_nodes}
use Rattle.words.specs.Programs.{array_word, line_word, cell_word, tap_word, array_output_word, array_end_word}
use Rattle.words.specs.ProgramKinds.{program_kind_of, is_array_end}
use Rattle.words.specs.ProgramTables.{TapInRange, CellInRange, ProgramInRange, max_delay, max_factor}
use Rattle.words.specs.ProgramEncoding.{line_source, line_words, tap_words, cell_words, program_front, program_body, encoded_program}
use Rattle.words.specs.Questions.{count_of}
use Rattle.words.specs.ProgramQuestions.{lines_in, cells_in, program_format, program_refused}
use Rattle.words.specs.ProgramDrafts.{ProgramStands, nodes_of}
use Rattle.words.specs.Formats.{asked_in, refused_from_in}
use Rattle.words.proofs.Wholes.{low_field, high_field, clear_field, low_only, clear_only}
use Rattle.words.proofs.ProgramWholes.{program_kind_made, cell_node, cell_clear}
use Rattle.words.proofs.ProgramStanding.{stands_array, stands_line, stands_cell, stands_tap, stands_array_output}
use Rattle.words.proofs.Sources.{source_place}
use Rattle.words.proofs.ProgramEncodings.{line_heard, member_push, program_few}
use Rattle.words.proofs.FormatAsking.{allow, hands_on}

array_passes : (n factor : ℕ) → 1 ≤ n → n ≤ max_nodes → 1 ≤ factor → factor ≤ max_factor → (after : List ℕ) →
    ProgramStands (array_word n factor ∷ []) n 0 [] 0 false × (refused_from_in program_format [] (array_word n factor ∷ after) ≡ refused_from_in program_format (array_word n factor ∷ []) after)
array_passes n factor some few slowed slow after =
    let w : ℕ = array_word n factor in
    let k : program_kind_of w ≡ Some kind.Head = program_kind_made (Some kind.Head) (factor * 2 ^ 6 + n) (omega arith) in
    let count : field 0 6 w ≡ n = low_field 6 7 15 8 n factor refl (omega arith) (omega arith) in
    let high : field 6 7 w ≡ factor = high_field 6 7 15 8 n factor refl (omega arith) (omega arith) in
    let clear : field 13 15 w ≡ 0 = clear_field 6 7 15 8 n factor refl (omega arith) (omega arith) in
    let none : asked_in program_format [] w after ≡ None =
    allow program_format [] w after (Some kind.Head) k refl
    (and_from _ _ (eq-eqb _ _ clear)
    (and_from _ _
    (and_from _ _ (ap (leb 1) count ∙ le-leb 1 n some) (ap (λ m. leb m max_nodes) count ∙ le-leb n max_nodes few))
    (and_from _ _ (ap (leb 1) high ∙ le-leb 1 factor slowed) (ap (λ m. leb m max_factor) high ∙ le-leb factor max_factor slow))))
    refl refl in
    (subst (λ m. ProgramStands (w ∷ []) m 0 [] 0 false) count (stands_array w k), hands_on program_format [] w after (Some kind.Head) k refl none)

-- the lines
module _ (n : ℕ) (few : n ≤ max_nodes) where
  line_passes : (p : List ℕ) (k l : ℕ) → ProgramStands p n k [] 0 false → k ≤ n → l ≤ max_delay → (after : List ℕ) →
      ProgramStands (p ++ line_word (line_source n k) l ∷ []) n (suc k) [] 0 false
      × (refused_from_in program_format p (line_word (line_source n k) l ∷ after) ≡ refused_from_in program_format (p ++ line_word (line_source n k) l ∷ []) after)
  line_passes p k l s below short after =
      let j : ℕ = line_source n k in
      let w : ℕ = line_word j l in
      let heard = line_heard n k below in
      let place = source_place n j few heard in
      let e : program_kind_of w ≡ Some kind.Line = program_kind_made (Some kind.Line) (l * 2 ^ 6 + j) (omega arith) in
      let from : field 0 6 w ≡ j = low_field 6 12 10 9 j l refl (omega arith) (omega arith) in
      let clear : field 18 10 w ≡ 0 = clear_field 6 12 10 9 j l refl (omega arith) (omega arith) in
      let none : asked_in program_format p w after ≡ None =
      allow program_format p w after (Some kind.Line) e
      (and_from _ _ (lt-ltb 0 (length p) s.some) (lt-ltb (lines_in p) (count_of p + 1) (omega (arith, s.lines, s.count))))
      (and_from _ _ (eq-eqb _ _ clear) (ap₂ is_source s.count from ∙ heard))
      (eq-eqb _ _ (from ∙ sym (ap₂ line_source s.count s.lines)))
      refl in (
        subst (λ m. ProgramStands (p ++ w ∷ []) n m [] 0 false) (add-one k) (stands_line p n k [] 0 s w refl e),
        hands_on program_format p w after (Some kind.Line) e refl none,
      )

  pub lines_pass : (ls : List ℕ) (p : List ℕ) (k : ℕ) → ProgramStands p n k [] 0 false → k + length ls ≤ n + 1 → All (λ l. l ≤ max_delay) ls → (after : List ℕ) →
      ProgramStands (p ++ line_words n k ls) n (k + length ls) [] 0 false
      × (refused_from_in program_format p (line_words n k ls ++ after) ≡ refused_from_in program_format (p ++ line_words n k ls) after)
  unfolding line_words
  lines_pass [] p k s room each after = (
    subst (λ m. ProgramStands (p ++ []) n m [] 0 false) (sym (add-zero k)) (subst (λ ws. ProgramStands ws n k [] 0 false) (sym (append-nil p)) s),
    ap (λ ws. refused_from_in program_format ws after) (sym (append-nil p)),
  )
  lines_pass (l ∷ ls) p k s room each after =
      let w : ℕ = line_word (line_source n k) l in
      let here = line_passes p k l s (omega arith) (each 0 l (omega arith)) (line_words n (suc k) ls ++ after) in
      let rest = lines_pass ls (p ++ w ∷ []) (suc k) here.0 (omega arith) (λ i d h. each (suc i) d (omega arith)) after in
      let join : (p ++ w ∷ []) ++ line_words n (suc k) ls ≡ p ++ (w ∷ line_words n (suc k) ls) = append_assoc p (w ∷ []) (line_words n (suc k) ls) in (
        subst (λ m. ProgramStands (p ++ (w ∷ line_words n (suc k) ls)) n m [] 0 false) (suc-add k (length ls) ∙ sym (add-suc k (length ls)))
            (subst (λ ws. ProgramStands ws n (suc k + length ls) [] 0 false) join rest.0),
        here.1 ∙ rest.1 ∙ ap (λ ws. refused_from_in program_format ws after) join,
      )

  -- the taps of a cell
  module _ (laid : ℕ) (nodes : List ℕ) (some : 0 < length nodes) where
    tap_passes : (p : List ℕ) (least : ℕ) (t : Tap) → ProgramStands p n laid nodes least false → least ≤ t.source → TapInRange n t → (after : List ℕ) →
        ProgramStands (p ++ tap_word t.source t.delay ∷ []) n laid nodes (suc t.source) false
        × (refused_from_in program_format p (tap_word t.source t.delay ∷ after) ≡ refused_from_in program_format (p ++ tap_word t.source t.delay ∷ []) after)
    tap_passes p least t s above r after =
        let w : ℕ = tap_word t.source t.delay in
        let place = source_place n t.source few r.source in
        let e : program_kind_of w ≡ Some kind.Tap = program_kind_made (Some kind.Tap) (t.delay * 2 ^ 6 + t.source) (omega (arith, r.delay)) in
        let from : field 0 6 w ≡ t.source = low_field 6 12 10 11 t.source t.delay refl (omega arith) (omega (arith, r.delay)) in
        let clear : field 18 10 w ≡ 0 = clear_field 6 12 10 11 t.source t.delay refl (omega arith) (omega (arith, r.delay)) in
        let none : asked_in program_format p w after ≡ None =
        allow program_format p w after (Some kind.Tap) e (s.cell ∙ ap (λ b. b && true) (lt-ltb 0 (length nodes) some))
        (and_from _ _ (eq-eqb _ _ clear) (ap₂ is_source s.count from ∙ r.source))
        (ap (λ m. leb m (field 0 6 w)) s.least ∙ ap (leb least) from ∙ le-leb least t.source above)
        refl in (
          subst (λ m. ProgramStands (p ++ w ∷ []) n laid nodes (suc m) false) from (stands_tap p n laid nodes least s w some e),
          hands_on program_format p w after (Some kind.Tap) e refl none,
        )

    pub taps_pass : (ts : List Tap) (p : List ℕ) (least : ℕ) → ProgramStands p n laid nodes least false → All (TapInRange n) ts → AllPairs (λ t u. t.source < u.source) ts →
        All (λ t. least ≤ t.source) ts → (after : List ℕ) →
        (m : ℕ) × ProgramStands (p ++ tap_words ts) n laid nodes m false × (refused_from_in program_format p (tap_words ts ++ after) ≡ refused_from_in program_format (p ++ tap_words ts) after)
    taps_pass [] p least s each up above after =
        (least, subst (λ ws. ProgramStands ws n laid nodes least false) (sym (append-nil p)) s, ap (λ ws. refused_from_in program_format ws after) (sym (append-nil p)))
    taps_pass (t ∷ ts) p least s each up above after =
        let w : ℕ = tap_word t.source t.delay in
        let here = tap_passes p least t s (above 0 t (omega arith)) (each 0 t (omega arith)) (tap_words ts ++ after) in
        let rest =
        taps_pass ts (p ++ w ∷ []) (suc t.source) here.0 (λ i d h. each (suc i) d (omega arith)) (λ i j d h l. up (suc i) (suc j) d (omega arith) (omega arith))
        (λ i d h. omega (arith, up 0 (suc i) d (omega arith) (omega arith))) after in
        let join : (p ++ w ∷ []) ++ tap_words ts ≡ p ++ (w ∷ tap_words ts) = append_assoc p (w ∷ []) (tap_words ts) in
        (rest.0, subst (λ ws. ProgramStands ws n laid nodes rest.0 false) join rest.1, here.1 ∙ rest.2 ∙ ap (λ ws. refused_from_in program_format ws after) join)

  -- the cells
  cell_passes : (p : List ℕ) (nodes : List ℕ) (least : ℕ) (c : Cell) → ProgramStands p n (n + 1) nodes least false → length nodes < n → CellInRange n c →
      is_member eqb nodes c.node ≡ false → (after : List ℕ) →
      ProgramStands (p ++ cell_word c.node c.operation c.lag ∷ []) n (n + 1) (nodes ++ c.node ∷ []) 0 false
      × (refused_from_in program_format p (cell_word c.node c.operation c.lag ∷ after) ≡ refused_from_in program_format (p ++ cell_word c.node c.operation c.lag ∷ []) after)
  cell_passes p nodes least c s room r new after =
      let w : ℕ = cell_word c.node c.operation c.lag in
      let small : c.node < 32 = omega (arith, r.node) in
      let operation : c.operation < 256 = r.operation in
      let lag : c.lag < 4096 = omega (arith, r.lag) in
      let e : program_kind_of w ≡ Some kind.Cell = program_kind_made (Some kind.Cell) (c.lag * 2 ^ 13 + c.operation * 2 ^ 5 + c.node) (omega arith) in
      let node : field 0 5 w ≡ c.node = cell_node c.node c.operation c.lag small operation lag in
      let clear : field 25 3 w ≡ 0 = cell_clear c.node c.operation c.lag small operation lag in
      let none : asked_in program_format p w after ≡ None =
      allow program_format p w after (Some kind.Cell) e
      (and_from _ _ (eq-eqb _ _ (s.lines ∙ ap (λ m. m + 1) (sym s.count))) (lt-ltb (length (cells_in p)) (count_of p) (omega (arith, ap length s.cells, s.count))))
      (and_from _ _ (eq-eqb _ _ clear) (ap₂ ltb node s.count ∙ lt-ltb c.node n r.node))
      (ap not (ap₂ (is_member eqb) s.cells node ∙ new))
      refl in (
        subst (λ m. ProgramStands (p ++ w ∷ []) n (n + 1) (nodes ++ m ∷ []) 0 false) node (stands_cell p n (n + 1) nodes least s w e),
        hands_on program_format p w after (Some kind.Cell) e refl none,
      )

  pub cells_pass : (cs : List Cell) (p : List ℕ) (nodes : List ℕ) (least : ℕ) → ProgramStands p n (n + 1) nodes least false → length nodes + length cs ≤ n → All (CellInRange n) cs →
      AllPairs (λ c d. c.node ≢ d.node) cs → All (λ c. is_member eqb nodes c.node ≡ false) cs → (after : List ℕ) →
      (m : ℕ) × ProgramStands (p ++ cell_words cs) n (n + 1) (nodes ++ nodes_of cs) m false
      × (refused_from_in program_format p (cell_words cs ++ after) ≡ refused_from_in program_format (p ++ cell_words cs) after)
  unfolding cell_words
  cells_pass [] p nodes least s room each apart new after = (
    least,
    subst (λ ns. ProgramStands (p ++ []) n (n + 1) ns least false) (sym (append-nil nodes)) (subst (λ ws. ProgramStands ws n (n + 1) nodes least false) (sym (append-nil p)) s),
    ap (λ ws. refused_from_in program_format ws after) (sym (append-nil p)),
  )
  cells_pass (c ∷ cs) p nodes least s room each apart new after =
      let w : ℕ = cell_word c.node c.operation c.lag in
      let r : CellInRange n c = each 0 c (omega arith) in
      let ts : List ℕ = tap_words c.taps.items in
      let here = cell_passes p nodes least c s (omega arith) r (new 0 c (omega arith)) ((ts ++ cell_words cs) ++ after) in
      let taps =
      taps_pass (n + 1) (nodes ++ c.node ∷ []) (omega (arith, length_push nodes c.node)) c.taps.items (p ++ w ∷ []) 0 here.0 r.taps r.ascending (λ i d h. omega arith) (cell_words cs ++ after) in
      let rest =
      cells_pass cs ((p ++ w ∷ []) ++ ts) (nodes ++ c.node ∷ []) taps.0 taps.1 (omega (arith, length_push nodes c.node)) (λ i d h. each (suc i) d (omega arith))
      (λ i j d h l. apart (suc i) (suc j) d (omega arith) (omega arith))
      (λ i d h. member_push nodes _ c.node (new (suc i) d (omega arith)) (apart 0 (suc i) d (omega arith) (omega arith))) after in
      let join : ((p ++ w ∷ []) ++ ts) ++ cell_words cs ≡ p ++ (w ∷ (ts ++ cell_words cs)) = append_assoc (p ++ w ∷ []) ts (cell_words cs) ∙ append_assoc p (w ∷ []) (ts ++ cell_words cs) in (
        rest.0,
        subst (λ ws. ProgramStands ws n (n + 1) (nodes ++ (c.node ∷ nodes_of cs)) rest.0 false) join
            (subst (λ ns. ProgramStands (((p ++ w ∷ []) ++ ts) ++ cell_words cs) n (n + 1) ns rest.0 false) (append_assoc nodes (c.node ∷ []) (nodes_of cs)) rest.1),
        here.1 ∙ ap (refused_from_in program_format (p ++ w ∷ [])) (append_assoc ts (cell_words cs) after) ∙ taps.2 ∙ rest.2 ∙ ap (λ ws. refused_from_in program_format ws after) join,
      )

array_output_passes : (p : List ℕ) (n laid : ℕ) (nodes : List ℕ) (least : ℕ) (o : Tap) → ProgramStands p n laid nodes least false → length nodes ≡ n → 1 ≤ n → n ≤ max_nodes →
    o.source < n → o.delay ≤ max_delay → (after : List ℕ) →
    ProgramStands (p ++ array_output_word o.source o.delay ∷ []) n laid nodes 0 true
    × (refused_from_in program_format p (array_output_word o.source o.delay ∷ after) ≡ refused_from_in program_format (p ++ array_output_word o.source o.delay ∷ []) after)
array_output_passes p n laid nodes least o s all some few l small after =
    let w : ℕ = array_output_word o.source o.delay in
    let e : program_kind_of w ≡ Some kind.Output = program_kind_made (Some kind.Output) (o.delay * 2 ^ 6 + o.source) (omega arith) in
    let node : field 0 6 w ≡ o.source = low_field 6 12 10 12 o.source o.delay refl (omega arith) (omega arith) in
    let clear : field 18 10 w ≡ 0 = clear_field 6 12 10 12 o.source o.delay refl (omega arith) (omega arith) in
    let none : asked_in program_format p w after ≡ None =
    allow program_format p w after (Some kind.Output) e
    (and_from _ _ (s.cell ∙ ap (λ b. b && true) (lt-ltb 0 (length nodes) (omega arith))) (eq-eqb _ _ (ap length s.cells ∙ all ∙ sym s.count)))
    (and_from _ _ (eq-eqb _ _ clear) (ap₂ ltb node s.count ∙ lt-ltb o.source n l)) refl refl in
    (stands_array_output p n laid nodes least s w (omega arith) e, hands_on program_format p w after (Some kind.Output) e refl none)

array_end_passes : (p : List ℕ) (n laid : ℕ) (nodes : List ℕ) (least : ℕ) → ProgramStands p n laid nodes least true → length p ≤ 1123 →
    refused_from_in program_format p (array_end_word (length p + 1) ∷ []) ≡ None
unfolding refused_from_in
array_end_passes p n laid nodes least s few =
    let w : ℕ = array_end_word (length p + 1) in
    let e : program_kind_of w ≡ Some kind.End = program_kind_made (Some kind.End) (length p + 1) (omega arith) in
    let count : field 0 11 w ≡ length p + 1 = low_only 11 17 13 (length p + 1) refl (omega arith) in
    let clear : field 11 17 w ≡ 0 = clear_only 11 17 13 (length p + 1) refl (omega arith) in
    let none : asked_in program_format p w [] ≡ None =
    allow program_format p w [] (Some kind.End) e s.output (and_from _ _ (eq-eqb _ _ clear) refl) refl (and_from _ _ (eq-eqb _ _ count) refl) in
    ap (λ o. option_or o (cond (is_array_end (program_kind_of w)) None (refused_from_in program_format (p ++ w ∷ []) []))) none
    ∙ ap (λ κ. cond (is_array_end κ) None (refused_from_in program_format (p ++ w ∷ []) [])) e

-- the law: nothing of a program's encoding is refused
pub program_passes : (p : ProgramTable) → ProgramInRange p → program_refused (encoded_program p) ≡ None
unfolding encoded_program
program_passes p r =
    let n : ℕ = p.count in
    let a : ℕ = array_word p.count p.factor in
    let ls : List ℕ = line_words p.count 0 p.lines.items in
    let cs : List ℕ = cell_words p.cells.items in
    let o : ℕ = array_output_word p.output.source p.output.delay in
    let e : ℕ = array_end_word (length (program_body p) + 1) in
    let first = array_passes p.count p.factor r.some r.few r.slowed r.slow (((ls ++ cs) ++ o ∷ []) ++ e ∷ []) in
    let lines = lines_pass n r.few p.lines.items (a ∷ []) 0 first.0 (omega (arith, r.lines)) r.lengths (cs ++ (o ∷ (e ∷ []))) in
    let laid : 0 + length p.lines.items ≡ n + 1 = omega (arith, r.lines) in
    let cells =
    cells_pass n r.few p.cells.items (a ∷ ls) [] 0 (subst (λ m. ProgramStands (a ∷ ls) n m [] 0 false) laid lines.0) (omega (arith, r.cells)) r.ranges r.apart (λ i d h. refl)
    (o ∷ (e ∷ [])) in
    let all : length (nodes_of p.cells.items) ≡ n = length-map p.cells.items (λ (c : Cell). c.node) ∙ r.cells in
    let output =
    array_output_passes (program_front p) n (n + 1) (nodes_of p.cells.items) cells.0 p.output cells.1 all r.some r.few r.output_node r.output_delay (e ∷ []) in
    first.1 ∙ ap (refused_from_in program_format (a ∷ [])) (append_assoc (ls ++ cs) (o ∷ []) (e ∷ []) ∙ append_assoc ls cs (o ∷ (e ∷ []))) ∙ lines.1 ∙ cells.2 ∙ output.1
    ∙ array_end_passes (program_body p) n (n + 1) (nodes_of p.cells.items) 0 output.0 (program_few p r)
