-- A program word that passes every question: the draft with it.
use Rattle.std.proofs.Common.{◌≡◌, ℕ, ◌+◌, ◌^◌, ◌<◌, ◌≤◌, true, false, not, eqb, List, [], ◌∷◌, ◌++◌, length, get_or, set, take, None, sym, refl, ap, ap₂, ◌∙◌, subst, ⊎_elim, arith, Some}
use Rattle.std.specs.List.{All, refill}
use Rattle.std.specs.Set.{is_member}
use Rattle.std.proofs.lemmas.List.{append-nil, drop_all, length-set, take_all, take_more, take_more_set}
use Rattle.std.proofs.lemmas.Bool.{lt-ltb, le-leb, eq-eqb, and_from, cases_Bool}
use Rattle.arrayvec.specs.ArrayVec.{ArrayVec, with_items}
use Rattle.words.specs.declared.program_table.Tap.{Tap}
use Rattle.words.specs.declared.program_table.Cell.{Cell}
use Rattle.words.specs.declared.program_draft.ProgramDraft.{ProgramDraft}
use Rattle.words.specs.declared.kinds.ProgramKind.TheVariants as kind
use Rattle.words.specs.Fields.{field}
use Rattle.words.specs.Designs.{is_source, byte, sources}
use Rattle.words.specs.Programs.{line_word, cell_word, tap_word, array_output_word}
use Rattle.words.specs.ProgramKinds.{program_kind_of}
use Rattle.words.specs.ProgramTables.{TapInRange, CellInRange, max_lag, max_delay}
use Rattle.words.specs.ProgramEncoding.{line_source}
use Rattle.words.specs.ProgramQuestions.{program_format}
use Rattle.words.specs.ProgramDrafts.{program_drafted, ProgramSound, nodes_of, last_taps, with_lines, with_cells, with_output}
use Rattle.words.specs.ProgramTaking.{ProgramPassed}
use Rattle.words.specs.Formats.{asked_in}
use Rattle.words.proofs.Wholes.{whole_two}
use Rattle.words.proofs.ProgramWholes.{program_kind_found, whole_cell}
use Rattle.words.proofs.Sources.{source_place}
use Rattle.words.proofs.ProgramEncodings.{line_heard, taps_few}
use Rattle.words.proofs.ProgramDrafting.{program_begins}
use Rattle.words.proofs.ProgramDrafted.{last_pushed, last_in_range, line_drafted, line_sound, cell_drafted, cell_sound, tap_drafted, tap_sound, output_drafted, output_sound}
use Rattle.words.proofs.ProgramTaking.{yes}

-- what a word adds to a draft
abbrev pub Adds : ProgramDraft → ProgramDraft → ℕ → Type 0
Adds d e w = ProgramSound e × ProgramPassed (program_drafted d) w (program_drafted e)

added : (d e : ProgramDraft) (w : ℕ) → ProgramSound e → program_drafted e ≡ program_drafted d ++ w ∷ [] →
    ((after : List ℕ) → asked_in program_format (program_drafted d) w after ≡ None) → Adds d e w
added d e w s q h = (s, (q, program_begins e s, h))

-- a vector, after its elements were written as a slice
refilled : (xs ws : List Cell) → length ws ≡ length xs → refill (length xs) xs ws ≡ ws
refilled xs ws same =
    ap (λ r. take (length xs) (ws ++ r)) (drop_all (length ws) xs (omega arith)) ∙ ap (take (length xs)) (append-nil ws) ∙ take_all (length xs) ws (omega arith)

module _ (d : ProgramDraft) (s : ProgramSound d) where
  -- the output comes when no line and no cell is missing
  pub open_lines : length d.table.lines.items ≤ d.table.count → d.complete ≡ false
  open_lines l =
      ⊎_elim
      (λ (t : d.complete ≡ true). let all = s.whole t in absurd (omega (arith, s.lined (omega (arith, s.some)))))
      (λ (f : d.complete ≡ false). f)
      (cases_Bool d.complete)

  pub open_cells : length d.table.cells.items < d.table.count → d.complete ≡ false
  open_cells l = ⊎_elim (λ (t : d.complete ≡ true). absurd (omega (arith, s.whole t))) (λ (f : d.complete ≡ false). f) (cases_Bool d.complete)

  -- the last cell has room for a tap of a source that is above all of its own
  pub tap_room : 0 < length d.table.cells.items → d.complete ≡ false → (j : ℕ) → is_source d.table.count j ≡ true → d.least ≤ j → (now : List Cell) → now ≡ d.table.cells.items →
      (last : ℕ) → last + 1 ≡ length d.table.cells.items → (x : Cell) → length (get_or now last x).taps.items < sources
  tap_room some open' j heard above now value last at x =
      let c : Cell = get_or now last x in
      let long : length now ≡ length d.table.cells.items = ap length value in
      let was : d.table.cells.items ≡ take last now ++ c ∷ [] = sym value ∙ sym (take_all (last + 1) now (omega arith)) ∙ take_more now last x (omega arith) in
      let old : CellInRange d.table.count c = last_in_range (CellInRange d.table.count) (take last now) c (subst (All (CellInRange d.table.count)) was s.ranges) in
      let below : All (λ u. u.source < d.least) c.taps.items = subst (All (λ u. u.source < d.least)) (ap last_taps was ∙ last_pushed (take last now) c) (s.below open') in
      omega (arith, taps_few d.least c.taps.items old.ascending below, source_place d.table.count j s.few heard)

  module _ (w : ℕ) (fits : w < 2 ^ 32) where
    pub line_adds : program_kind_of w ≡ Some kind.Line → length d.table.lines.items ≤ d.table.count → field 18 10 w ≡ 0 →
        field 0 6 w ≡ line_source d.table.count (length d.table.lines.items) → (lines : ArrayVec ℕ) → lines.items ≡ d.table.lines.items ++ field 6 12 w ∷ [] → Adds d (with_lines d lines) w
    line_adds k room clear order lines is =
        let open' = open_lines room in
        let heard : is_source d.table.count (field 0 6 w) ≡ true = ap (is_source d.table.count) order ∙ line_heard d.table.count (length d.table.lines.items) room in
        let short : field 6 12 w ≤ max_delay = omega arith in
        let inside : length d.table.lines.items < d.table.count + 1 = omega arith in
        let whole : w ≡ line_word (line_source d.table.count (length d.table.lines.items)) (field 6 12 w) =
        whole_two 6 12 10 9 w refl fits (program_kind_found w (Some kind.Line) k (omega arith)) clear ∙ ap (λ j. line_word j (field 6 12 w)) order in
        added d (with_lines d lines) w (line_sound d s open' lines (field 6 12 w) is inside short w k whole)
        (line_drafted d s open' lines (field 6 12 w) is inside short ∙ ap (λ v. program_drafted d ++ v ∷ []) (sym whole))
        (λ after. yes d s w (Some kind.Line) k (lt-ltb _ _ inside) (and_from _ _ (eq-eqb _ _ clear) heard) (eq-eqb _ _ order) after refl)

    pub cell_adds : program_kind_of w ≡ Some kind.Cell → length d.table.lines.items ≡ d.table.count + 1 → length d.table.cells.items < d.table.count → field 25 3 w ≡ 0 →
        field 0 5 w < d.table.count → is_member eqb (nodes_of d.table.cells.items) (field 0 5 w) ≡ false → (cells : ArrayVec Cell) (c : Cell) →
        cells.items ≡ d.table.cells.items ++ c ∷ [] → c.node ≡ field 0 5 w → c.operation ≡ field 5 8 w → c.lag ≡ field 13 12 w → c.taps.items ≡ [] → Adds d (with_cells d cells 0) w
    cell_adds k laid room clear below new cells c is node operation lag bare =
        let open' = open_cells room in
        let small : field 5 8 w < byte = omega arith in
        let early : field 13 12 w ≤ max_lag = omega arith in
        let range : CellInRange d.table.count c =
        record {
          node = omega arith;
          operation = omega arith;
          lag = omega arith;
          taps = λ i t h. absurd (omega (arith, ap length bare));
          ascending = λ i j t h l. absurd (omega (arith, ap length bare));
        } in
        let fresh : is_member eqb (nodes_of d.table.cells.items) c.node ≡ false = ap (is_member eqb (nodes_of d.table.cells.items)) node ∙ new in
        let whole : w ≡ cell_word c.node c.operation c.lag =
        whole_cell w fits (program_kind_found w (Some kind.Cell) k (omega arith)) clear ∙ (λ i. cell_word (sym node i) (sym operation i) (sym lag i)) in
        added d (with_cells d cells 0) w (cell_sound d s open' cells c is bare laid room range fresh w k (sym node) whole)
        (cell_drafted d s open' cells c is bare laid room range fresh ∙ ap (λ v. program_drafted d ++ v ∷ []) (sym whole))
        (λ after.
        yes d s w (Some kind.Cell) k (and_from _ _ (eq-eqb _ _ laid) (lt-ltb _ _ room)) (and_from _ _ (eq-eqb _ _ clear) (lt-ltb _ _ below)) (ap not new) after refl)

    -- the last cell is written in its place among the cells
    pub tap_adds : program_kind_of w ≡ Some kind.Tap → 0 < length d.table.cells.items → d.complete ≡ false → field 18 10 w ≡ 0 → is_source d.table.count (field 0 6 w) ≡ true →
        d.least ≤ field 0 6 w → (t : Tap) → t.source ≡ field 0 6 w → t.delay ≡ field 6 12 w → (now : List Cell) → now ≡ d.table.cells.items → (last : ℕ) → last + 1 ≡ length d.table.cells.items →
        (x e : Cell) → e.node ≡ (get_or now last x).node → e.operation ≡ (get_or now last x).operation → e.lag ≡ (get_or now last x).lag → e.taps.items ≡ (get_or now last x).taps.items ++ t ∷ [] →
        Adds d (with_cells d (with_items d.table.cells (set now last e)) (t.source + 1)) w
    tap_adds k some open' clear heard above t source delay now value last at x e node operation lag taps =
        let c : Cell = get_or now last x in
        let cells : ArrayVec Cell = with_items d.table.cells (set now last e) in
        let before : List Cell = take last now in
        let long : length now ≡ length d.table.cells.items = ap length value in
        let was : d.table.cells.items ≡ before ++ c ∷ [] =
        sym value ∙ sym (take_all (last + 1) now (omega arith)) ∙ take_more now last x (omega arith) in
        let is : cells.items ≡ before ++ e ∷ [] =
        refilled d.table.cells.items (set now last e) (length-set now last e ∙ long) ∙ sym (take_all (last + 1) (set now last e) (omega (arith, length-set now last e)))
        ∙ take_more_set now last e (omega arith) in
        let short : field 6 12 w ≤ max_delay = omega arith in
        let range : TapInRange d.table.count t = record { source = ap (is_source d.table.count) source ∙ heard; delay = omega arith } in
        let high : d.least ≤ t.source = omega arith in
        let whole : w ≡ tap_word t.source t.delay =
        whole_two 6 12 10 11 w refl fits (program_kind_found w (Some kind.Tap) k (omega arith)) clear ∙ ap₂ tap_word (sym source) (sym delay) in
        added d (with_cells d cells (t.source + 1)) w (tap_sound d s open' cells before c e t was is node operation lag taps high range w k (sym source) whole)
        (tap_drafted d s open' cells before c e t was is node operation lag taps high range ∙ ap (λ v. program_drafted d ++ v ∷ []) (sym whole))
        (λ after.
        yes d s w (Some kind.Tap) k (and_from _ _ (lt-ltb _ _ some) (ap not open')) (and_from _ _ (eq-eqb _ _ clear) heard) (le-leb _ _ above) after refl)

    pub output_adds : program_kind_of w ≡ Some kind.Output → length d.table.cells.items ≡ d.table.count → d.complete ≡ false → field 18 10 w ≡ 0 → field 0 6 w < d.table.count →
        (t : Tap) → t.source ≡ field 0 6 w → t.delay ≡ field 6 12 w → Adds d (with_output d t) w
    output_adds k all open' clear node t source delay =
        let short : field 6 12 w ≤ max_delay = omega arith in
        let some : 0 < length d.table.cells.items = omega (arith, s.some) in
        let below : t.source < d.table.count = omega arith in
        let late : t.delay ≤ max_delay = omega arith in
        let whole : w ≡ array_output_word t.source t.delay =
        whole_two 6 12 10 12 w refl fits (program_kind_found w (Some kind.Output) k (omega arith)) clear ∙ ap₂ array_output_word (sym source) (sym delay) in
        added d (with_output d t) w (output_sound d s open' t all below late w k whole)
        (output_drafted d s open' t all below late ∙ ap (λ v. program_drafted d ++ v ∷ []) (sym whole))
        (λ after.
        yes d s w (Some kind.Output) k (and_from _ _ (and_from _ _ (lt-ltb _ _ some) (ap not open')) (eq-eqb _ _ all)) (and_from _ _ (eq-eqb _ _ clear) (lt-ltb _ _ node)) refl after refl)
