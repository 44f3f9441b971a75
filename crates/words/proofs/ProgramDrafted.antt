-- A draft with one word more is sound, and is the draft of the words with that word.
use Rattle.std.proofs.Common.{◌≡◌, ℕ, zero, suc, ◌+◌, ◌-◌, ◌<◌, ◌≤◌, true, false, eqb, ◌≢◌, List, [], ◌∷◌, ◌++◌, length, get_or, sym, refl, ap, ◌∙◌, subst, ⊎_elim, append_assoc, zero-add, arith, Some}
use Rattle.std.specs.List.{All, AllPairs}
use Rattle.std.specs.Set.{is_member}
use Rattle.std.proofs.lemmas.List.{append-nil, length_push, length-map, map_push, get_or_push, nil_from_length}
use Rattle.std.proofs.lemmas.List.Elements.{All-push}
use Rattle.std.proofs.lemmas.List.Quantifiers.{all_pairs_push}
use Rattle.std.proofs.lemmas.Bool.{true≢false, cases_lt}
use Rattle.arrayvec.specs.ArrayVec.{ArrayVec}
use Rattle.words.specs.declared.program_table.Tap.{Tap}
use Rattle.words.specs.declared.program_table.Cell.{Cell}
use Rattle.words.specs.declared.program_draft.ProgramDraft.{ProgramDraft}
use Rattle.words.specs.declared.kinds.ProgramKind.TheVariants as kind
use Rattle.words.specs.Fields.{field}
use Rattle.words.specs.Programs.{array_word, line_word, cell_word, tap_word, array_output_word}
use Rattle.words.specs.ProgramKinds.{program_kind_of}
use Rattle.words.specs.ProgramTables.{TapInRange, CellInRange, max_delay}
use Rattle.words.specs.ProgramEncoding.{line_source, line_words, tap_words, cell_words}
use Rattle.words.specs.ProgramDrafts.{program_drafted, ProgramSound, ProgramStands, nodes_of, no_cell, last_taps, with_lines, with_cells, with_output}
use Rattle.words.proofs.ProgramStanding.{stands_line, stands_cell, stands_tap, stands_array_output}
use Rattle.words.proofs.ProgramEncodings.{lines_join, cells_join}
use Rattle.words.proofs.ProgramMissing.{none_has}
use Rattle.words.proofs.ProgramDrafting.{front_words}

-- the taps of the last cell
pub last_pushed : (cells : List Cell) (c : Cell) → last_taps (cells ++ c ∷ []) ≡ c.taps.items
last_pushed cells c = ap (λ (x : Cell). x.taps.items) (get_or_push cells c no_cell (length (cells ++ c ∷ []) - 1) (omega (arith, length_push cells c)))

-- the last cell of some is in range
pub last_in_range : (P : Cell → Type 0) (cells : List Cell) (c : Cell) → All P (cells ++ c ∷ []) → P c
last_in_range P cells c each = subst P (get_or_push cells c c (length cells) refl) (each (length cells) c (omega (arith, length_push cells c)))

-- all but the last
pub all_before : (P : Cell → Type 0) (cells : List Cell) (c : Cell) → All P (cells ++ c ∷ []) → All P cells
all_before P [] c each k d l = absurd (omega arith)
all_before P (x ∷ cells) c each zero d l = each 0 x (omega arith)
all_before P (x ∷ cells) c each (suc k) d l = all_before P cells c (λ i e h. each (suc i) e (omega arith)) k d (omega arith)

-- the nodes of cells, where the last one changes but not its node
same_nodes : (cells : List Cell) (c e : Cell) → e.node ≡ c.node → (k : ℕ) (d : Cell) → (get_or (cells ++ e ∷ []) k d).node ≡ (get_or (cells ++ c ∷ []) k d).node
same_nodes [] c e same zero d = same
same_nodes [] c e same (suc k) d = refl
same_nodes (x ∷ cells) c e same zero d = refl
same_nodes (x ∷ cells) c e same (suc k) d = same_nodes cells c e same k d

module _ (d : ProgramDraft) (s : ProgramSound d) (open' : d.complete ≡ false) where
  stands_open : ProgramStands (program_drafted d) d.table.count (length d.table.lines.items) (nodes_of d.table.cells.items) d.least false
  stands_open = subst (ProgramStands (program_drafted d) d.table.count (length d.table.lines.items) (nodes_of d.table.cells.items) d.least) open' s.stands

  -- a line
  module _ (lines : ArrayVec ℕ) (l : ℕ) (is : lines.items ≡ d.table.lines.items ++ l ∷ []) (room : length d.table.lines.items < d.table.count + 1) (short : l ≤ max_delay) where
    no_cells : length d.table.cells.items ≡ 0
    no_cells = ⊎_elim (λ (some : 0 < length d.table.cells.items). absurd (omega (arith, s.lined some))) (λ (none : length d.table.cells.items ≤ 0). omega arith) (cases_lt 0 (length d.table.cells.items))

    pub line_drafted : program_drafted (with_lines d lines) ≡ program_drafted d ++ line_word (line_source d.table.count (length d.table.lines.items)) l ∷ []
    unfolding line_words cell_words
    line_drafted =
        let n : ℕ = d.table.count in
        let ls : List ℕ = d.table.lines.items in
        let a : ℕ = array_word n d.table.factor in
        let none : d.table.cells.items ≡ [] = nil_from_length d.table.cells.items no_cells in
        let w : ℕ = line_word (line_source n (length ls)) l in
        let join : line_words n 0 (ls ++ l ∷ []) ≡ line_words n 0 ls ++ w ∷ [] =
        lines_join n 0 ls (l ∷ []) ∙ ap (λ k. line_words n 0 ls ++ line_word (line_source n k) l ∷ []) (zero-add (length ls)) in
        front_words (with_lines d lines) open'
        ∙ ap (λ cs. a ∷ (line_words n 0 lines.items ++ cell_words cs)) none ∙ ap (λ ws. a ∷ ws) (append-nil (line_words n 0 lines.items))
        ∙ ap (λ ks. a ∷ line_words n 0 ks) is ∙ ap (λ ws. a ∷ ws) join
        ∙ ap (λ ws. (a ∷ ws) ++ w ∷ []) (sym (append-nil (line_words n 0 ls)))
        ∙ ap (λ cs. (a ∷ (line_words n 0 ls ++ cell_words cs)) ++ w ∷ []) (sym none)
        ∙ ap (λ ws. ws ++ w ∷ []) (sym (front_words d open'))

    pub line_sound : (w : ℕ) → program_kind_of w ≡ Some kind.Line → w ≡ line_word (line_source d.table.count (length d.table.lines.items)) l → ProgramSound (with_lines d lines)
    line_sound w k e =
        let p : program_drafted d ++ w ∷ [] ≡ program_drafted (with_lines d lines) = ap (λ v. program_drafted d ++ v ∷ []) e ∙ sym line_drafted in
        let long : length lines.items ≡ length d.table.lines.items + 1 = ap length is ∙ length_push d.table.lines.items l in
        let none : nodes_of d.table.cells.items ≡ [] = ap nodes_of (nil_from_length d.table.cells.items no_cells) in
        let stands = stands_line (program_drafted d) d.table.count (length d.table.lines.items) (nodes_of d.table.cells.items) d.least stands_open w none k in
        record {
          some = s.some;
          few = s.few;
          slowed = s.slowed;
          slow = s.slow;
          lines = omega arith;
          lengths = subst (All (λ m. m ≤ max_delay)) (sym is) (All-push (λ m. m ≤ max_delay) d.table.lines.items l s.lengths short);
          cells = s.cells;
          lined = λ h. absurd (omega (arith, no_cells));
          ranges = s.ranges;
          apart = s.apart;
          first = s.first;
          below = s.below;
          output_node = s.output_node;
          output_delay = s.output_delay;
          whole = s.whole;
          stands =
              subst (ProgramStands (program_drafted (with_lines d lines)) d.table.count (length lines.items) (nodes_of d.table.cells.items) d.least) (sym open')
              (subst (λ m. ProgramStands (program_drafted (with_lines d lines)) d.table.count (length lines.items) (nodes_of d.table.cells.items) m false) (sym (s.first no_cells))
              (subst (λ m. ProgramStands (program_drafted (with_lines d lines)) d.table.count m (nodes_of d.table.cells.items) 0 false) (sym long)
              (subst (λ ws. ProgramStands ws d.table.count (length d.table.lines.items + 1) (nodes_of d.table.cells.items) 0 false) p stands)));
        }

  -- a cell, which has no taps yet
  module _ (cells : ArrayVec Cell) (c : Cell) (is : cells.items ≡ d.table.cells.items ++ c ∷ []) (bare : c.taps.items ≡ []) (laid : length d.table.lines.items ≡ d.table.count + 1)
      (room : length d.table.cells.items < d.table.count) (range : CellInRange d.table.count c) (new : is_member eqb (nodes_of d.table.cells.items) c.node ≡ false) where
    pub cell_drafted : program_drafted (with_cells d cells 0) ≡ program_drafted d ++ cell_word c.node c.operation c.lag ∷ []
    unfolding cell_words
    cell_drafted =
        let a : ℕ = array_word d.table.count d.table.factor in
        let l : List ℕ = line_words d.table.count 0 d.table.lines.items in
        let cs : List ℕ = cell_words d.table.cells.items in
        let w : ℕ = cell_word c.node c.operation c.lag in
        front_words (with_cells d cells 0) open'
        ∙ ap (λ xs. a ∷ (l ++ cell_words xs)) is
        ∙ ap (λ ws. a ∷ (l ++ ws)) (cells_join d.table.cells.items (c ∷ []) ∙ ap (λ ts. cs ++ (w ∷ (tap_words ts ++ []))) bare)
        ∙ ap (λ ws. a ∷ ws) (sym (append_assoc l cs (w ∷ [])))
        ∙ ap (λ ws. ws ++ w ∷ []) (sym (front_words d open'))

    pub cell_sound : (w : ℕ) → program_kind_of w ≡ Some kind.Cell → field 0 5 w ≡ c.node → w ≡ cell_word c.node c.operation c.lag → ProgramSound (with_cells d cells 0)
    cell_sound w k from e =
        let p : program_drafted d ++ w ∷ [] ≡ program_drafted (with_cells d cells 0) = ap (λ v. program_drafted d ++ v ∷ []) e ∙ sym cell_drafted in
        let nodes : nodes_of d.table.cells.items ++ field 0 5 w ∷ [] ≡ nodes_of cells.items =
        ap (λ m. nodes_of d.table.cells.items ++ m ∷ []) from ∙ sym (map_push (λ (x : Cell). x.node) d.table.cells.items c) ∙ sym (ap nodes_of is) in
        let stands = stands_cell (program_drafted d) d.table.count (length d.table.lines.items) (nodes_of d.table.cells.items) d.least stands_open w k in
        let long : length cells.items ≡ length d.table.cells.items + 1 = ap length is ∙ length_push d.table.cells.items c in
        let none : last_taps cells.items ≡ [] = ap last_taps is ∙ last_pushed d.table.cells.items c ∙ bare in
        record {
          some = s.some;
          few = s.few;
          slowed = s.slowed;
          slow = s.slow;
          lines = s.lines;
          lengths = s.lengths;
          cells = omega arith;
          lined = λ h. laid;
          ranges = subst (All (CellInRange d.table.count)) (sym is) (All-push (CellInRange d.table.count) d.table.cells.items c s.ranges range);
          apart =
              subst (AllPairs (λ x y. x.node ≢ y.node)) (sym is)
              (all_pairs_push (λ x y. x.node ≢ y.node) d.table.cells.items c s.apart (none_has d.table.cells.items c.node new));
          first = λ h. refl;
          below = λ _. subst (All (λ t. t.source < 0)) (sym none) (λ i t h. absurd (omega arith));
          output_node = s.output_node;
          output_delay = s.output_delay;
          whole = λ h. absurd (true≢false (sym h ∙ open'));
          stands =
              subst (ProgramStands (program_drafted (with_cells d cells 0)) d.table.count (length d.table.lines.items) (nodes_of cells.items) 0) (sym open')
              (subst (λ ns. ProgramStands (program_drafted (with_cells d cells 0)) d.table.count (length d.table.lines.items) ns 0 false) nodes
              (subst (λ ws. ProgramStands ws d.table.count (length d.table.lines.items) (nodes_of d.table.cells.items ++ field 0 5 w ∷ []) 0 false) p stands));
        }

  -- a tap of the last cell, which is c, and e with it
  module _ (cells : ArrayVec Cell) (before : List Cell) (c e : Cell) (t : Tap) (was : d.table.cells.items ≡ before ++ c ∷ []) (is : cells.items ≡ before ++ e ∷ [])
      (node : e.node ≡ c.node) (operation : e.operation ≡ c.operation) (lag : e.lag ≡ c.lag) (taps : e.taps.items ≡ c.taps.items ++ t ∷ [])
      (above : d.least ≤ t.source) (range : TapInRange d.table.count t) where
    pub tap_drafted : program_drafted (with_cells d cells (t.source + 1)) ≡ program_drafted d ++ tap_word t.source t.delay ∷ []
    unfolding cell_words
    tap_drafted =
        let a : ℕ = array_word d.table.count d.table.factor in
        let l : List ℕ = line_words d.table.count 0 d.table.lines.items in
        let b : List ℕ = cell_words before in
        let v : ℕ = cell_word c.node c.operation c.lag in
        let ts : List ℕ = tap_words c.taps.items in
        let w : ℕ = tap_word t.source t.delay in
        let same : cell_word e.node e.operation e.lag ≡ v = λ i. cell_word (node i) (operation i) (lag i) in
        let old : cell_words d.table.cells.items ≡ b ++ (v ∷ ts) =
        ap cell_words was ∙ cells_join before (c ∷ []) ∙ ap (λ ws. b ++ (v ∷ ws)) (append-nil ts) in
        let new : cell_words cells.items ≡ (b ++ (v ∷ ts)) ++ w ∷ [] =
        ap cell_words is ∙ cells_join before (e ∷ []) ∙ ap (λ ws. b ++ (cell_word e.node e.operation e.lag ∷ ws)) (append-nil (tap_words e.taps.items))
        ∙ ap (λ m. b ++ (m ∷ tap_words e.taps.items)) same ∙ ap (λ us. b ++ (v ∷ tap_words us)) taps
        ∙ ap (λ ws. b ++ (v ∷ ws)) (map_push (λ (u : Tap). tap_word u.source u.delay) c.taps.items t) ∙ sym (append_assoc b (v ∷ ts) (w ∷ [])) in
        front_words (with_cells d cells (t.source + 1)) open'
        ∙ ap (λ ws. a ∷ (l ++ ws)) new ∙ ap (λ ws. a ∷ ws) (sym (append_assoc l (b ++ (v ∷ ts)) (w ∷ [])))
        ∙ ap (λ ws. (a ∷ (l ++ ws)) ++ w ∷ []) (sym old)
        ∙ ap (λ ws. ws ++ w ∷ []) (sym (front_words d open'))

    pub tap_sound : (w : ℕ) → program_kind_of w ≡ Some kind.Tap → field 0 6 w ≡ t.source → w ≡ tap_word t.source t.delay → ProgramSound (with_cells d cells (t.source + 1))
    tap_sound w k from q =
        let p : program_drafted d ++ w ∷ [] ≡ program_drafted (with_cells d cells (t.source + 1)) = ap (λ v. program_drafted d ++ v ∷ []) q ∙ sym tap_drafted in
        let nodes : nodes_of d.table.cells.items ≡ nodes_of cells.items =
        ap nodes_of was ∙ map_push (λ (x : Cell). x.node) before c ∙ ap (λ m. nodes_of before ++ m ∷ []) (sym node) ∙ sym (map_push (λ (x : Cell). x.node) before e) ∙ sym (ap nodes_of is) in
        let long : length cells.items ≡ length d.table.cells.items =
        ap length is ∙ length_push before e ∙ sym (length_push before c) ∙ sym (ap length was) in
        let some : 0 < length d.table.cells.items = omega (arith, ap length was, length_push before c) in
        let ranges : All (CellInRange d.table.count) (before ++ c ∷ []) = subst (All (CellInRange d.table.count)) was s.ranges in
        let old : CellInRange d.table.count c = last_in_range (CellInRange d.table.count) before c ranges in
        let below : All (λ u. u.source < d.least) c.taps.items = subst (All (λ u. u.source < d.least)) (ap last_taps was ∙ last_pushed before c) (s.below open') in
        let up : AllPairs (λ u v. u.source < v.source) (c.taps.items ++ t ∷ []) =
        all_pairs_push (λ u v. u.source < v.source) c.taps.items t old.ascending (λ i u h. omega (arith, below i u h)) in
        let heard : All (TapInRange d.table.count) (c.taps.items ++ t ∷ []) = All-push (TapInRange d.table.count) c.taps.items t old.taps range in
        let new : CellInRange d.table.count e =
        record {
          node = omega (arith, old.node);
          operation = omega (arith, old.operation);
          lag = omega (arith, old.lag);
          taps = subst (All (TapInRange d.table.count)) (sym taps) heard;
          ascending = subst (AllPairs (λ u v. u.source < v.source)) (sym taps) up;
        } in
        let low : All (λ u. u.source < t.source + 1) (c.taps.items ++ t ∷ []) =
        All-push (λ u. u.source < t.source + 1) c.taps.items t (λ i u h. omega (arith, below i u h)) (omega arith) in
        let next : suc (field 0 6 w) ≡ t.source + 1 = omega arith in
        let stands =
        stands_tap (program_drafted d) d.table.count (length d.table.lines.items) (nodes_of d.table.cells.items) d.least stands_open w
        (omega (arith, length-map d.table.cells.items (λ (x : Cell). x.node))) k in
        record {
          some = s.some;
          few = s.few;
          slowed = s.slowed;
          slow = s.slow;
          lines = s.lines;
          lengths = s.lengths;
          cells = omega (arith, s.cells);
          lined = λ h. s.lined some;
          ranges =
              subst (All (CellInRange d.table.count)) (sym is)
              (All-push (CellInRange d.table.count) before e (all_before (CellInRange d.table.count) before c ranges) new);
          apart = λ i j x h m f.
              let at : (k : ℕ) (y : Cell) → (get_or cells.items k y).node ≡ (get_or d.table.cells.items k y).node =
              λ k y. ap (λ xs. (get_or xs k y).node) is ∙ same_nodes before c e node k y ∙ sym (ap (λ xs. (get_or xs k y).node) was) in
              s.apart i j x h (omega arith) (sym (at i x) ∙ f ∙ at j x);
          first = λ h. absurd (omega arith);
          below = λ _. subst (All (λ u. u.source < t.source + 1)) (sym (ap last_taps is ∙ last_pushed before e ∙ taps)) low;
          output_node = s.output_node;
          output_delay = s.output_delay;
          whole = λ h. absurd (true≢false (sym h ∙ open'));
          stands =
              subst (ProgramStands (program_drafted (with_cells d cells (t.source + 1))) d.table.count (length d.table.lines.items) (nodes_of cells.items) (t.source + 1)) (sym open')
              (subst (λ m. ProgramStands (program_drafted (with_cells d cells (t.source + 1))) d.table.count (length d.table.lines.items) (nodes_of cells.items) m false) next
              (subst (λ ns. ProgramStands (program_drafted (with_cells d cells (t.source + 1))) d.table.count (length d.table.lines.items) ns (suc (field 0 6 w)) false) nodes
              (subst (λ ws. ProgramStands ws d.table.count (length d.table.lines.items) (nodes_of d.table.cells.items) (suc (field 0 6 w)) false) p stands)));
        }

  -- the output
  module _ (output : Tap) (all : length d.table.cells.items ≡ d.table.count) (node : output.source < d.table.count) (short : output.delay ≤ max_delay) where
    pub output_drafted : program_drafted (with_output d output) ≡ program_drafted d ++ array_output_word output.source output.delay ∷ []
    output_drafted = ap (λ ws. ws ++ array_output_word output.source output.delay ∷ []) (sym (front_words d open'))

    pub output_sound : (w : ℕ) → program_kind_of w ≡ Some kind.Output → w ≡ array_output_word output.source output.delay → ProgramSound (with_output d output)
    output_sound w k e =
        let p : program_drafted d ++ w ∷ [] ≡ program_drafted (with_output d output) = ap (λ v. program_drafted d ++ v ∷ []) e ∙ sym output_drafted in
        let stands =
        stands_array_output (program_drafted d) d.table.count (length d.table.lines.items) (nodes_of d.table.cells.items) d.least stands_open w
        (omega (arith, length-map d.table.cells.items (λ (x : Cell). x.node), s.some)) k in
        record {
          some = s.some;
          few = s.few;
          slowed = s.slowed;
          slow = s.slow;
          lines = s.lines;
          lengths = s.lengths;
          cells = s.cells;
          lined = s.lined;
          ranges = s.ranges;
          apart = s.apart;
          first = λ h. absurd (omega (arith, s.some));
          below = λ h. absurd (true≢false h);
          output_node = node;
          output_delay = short;
          whole = λ h. all;
          stands = subst (λ ws. ProgramStands ws d.table.count (length d.table.lines.items) (nodes_of d.table.cells.items) 0 true) p stands;
        }
