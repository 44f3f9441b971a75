-- How the program words so far stand after one word more.
use Rattle.std.proofs.Common.{◌≡◌, ℕ, suc, ◌+◌, ◌<◌, true, false, not, cond, ◌&&◌, ◌||◌, ltb, List, [], ◌∷◌, ◌++◌, map, length, sym, refl, ap, ◌∙◌, arith, add-zero, Some, None, Option}
use Rattle.std.specs.List.{filter}
use Rattle.std.proofs.lemmas.List.{length_push, map-append, append-nil}
use Rattle.std.proofs.lemmas.List.Elements.{filter-append}
use Rattle.std.proofs.lemmas.List.Sums.{sum_by_push}
use Rattle.std.proofs.lemmas.Bool.{lt-ltb}
use Rattle.words.specs.declared.kinds.ProgramKind.{ProgramKind}
use Rattle.words.specs.declared.kinds.ProgramKind.TheVariants as kind
use Rattle.words.specs.Fields.{field}
use Rattle.words.specs.ProgramKinds.{program_kind_of, is_line, is_cell, is_tap, is_array_output}
use Rattle.words.specs.Questions.{count_of, last_word}
use Rattle.words.specs.ProgramQuestions.{lines_in, cells_in, in_cell, after_array_output, least_tap}
use Rattle.words.specs.ProgramDrafts.{ProgramStands}
use Rattle.words.proofs.Standing.{push_last, push_count}

push_lines : (p : List ℕ) (w : ℕ) → lines_in (p ++ w ∷ []) ≡ lines_in p + cond (is_line (program_kind_of w)) 1 0
unfolding lines_in
push_lines p w = sum_by_push (λ v. cond (is_line (program_kind_of v)) 1 0) p w

push_cells : (p : List ℕ) (w : ℕ) (k : Option ProgramKind) → program_kind_of w ≡ k → cells_in (p ++ w ∷ []) ≡ cells_in p ++ cond (is_cell k) (field 0 5 w ∷ []) []
unfolding cells_in
push_cells p w k e =
    ap (map (field 0 5)) (filter-append (λ v. is_cell (program_kind_of v)) p (w ∷ []))
    ∙ map-append (field 0 5) (filter (λ v. is_cell (program_kind_of v)) p) (filter (λ v. is_cell (program_kind_of v)) (w ∷ []))
    ∙ ap (λ κ. map (field 0 5) (filter (λ v. is_cell (program_kind_of v)) p) ++ map (field 0 5) (cond (is_cell κ) (w ∷ []) [])) e
    ∙ ap (λ l. map (field 0 5) (filter (λ v. is_cell (program_kind_of v)) p) ++ l) (one k)
  where
    one : (κ : Option ProgramKind) → map (field 0 5) (cond (is_cell κ) (w ∷ []) []) ≡ cond (is_cell κ) (field 0 5 w ∷ []) []
    one (Some kind.Head) = refl
    one (Some kind.Line) = refl
    one (Some kind.Cell) = refl
    one (Some kind.Tap) = refl
    one (Some kind.Output) = refl
    one (Some kind.End) = refl
    one None = refl

-- what the questions see of the last word, by its kind
module _ (p : List ℕ) (w : ℕ) (k : Option ProgramKind) (e : program_kind_of w ≡ k) where
  last_kind : program_kind_of (last_word (p ++ w ∷ [])) ≡ k
  last_kind = ap program_kind_of (push_last p w) ∙ e

  push_in_cell : in_cell (p ++ w ∷ []) ≡ (is_cell k || is_tap k)
  unfolding in_cell
  push_in_cell = ap (λ κ. is_cell κ || is_tap κ) last_kind

  push_output : after_array_output (p ++ w ∷ []) ≡ is_array_output k
  unfolding after_array_output
  push_output = ap is_array_output last_kind

  push_least : least_tap (p ++ w ∷ []) ≡ cond (is_tap k) (suc (field 0 6 w)) 0
  unfolding least_tap
  push_least = ap (λ κ. cond (is_tap κ) (suc (field 0 6 (last_word (p ++ w ∷ [])))) 0) last_kind ∙ ap (λ v. cond (is_tap k) (suc (field 0 6 v)) 0) (push_last p w)

pub stands_array : (w : ℕ) → program_kind_of w ≡ Some kind.Head → ProgramStands (w ∷ []) (field 0 6 w) 0 [] 0 false
unfolding count_of lines_in cells_in in_cell after_array_output least_tap
stands_array w e =
    record {
      some = omega arith;
      count = refl;
      lines = push_lines [] w ∙ ap (λ κ. 0 + cond (is_line κ) 1 0) e;
      cells = push_cells [] w (Some kind.Head) e;
      least = push_least [] w (Some kind.Head) e;
      cell = push_in_cell [] w (Some kind.Head) e;
      output = push_output [] w (Some kind.Head) e;
    }

module _ (p : List ℕ) (n laid : ℕ) (nodes : List ℕ) (least : ℕ) (s : ProgramStands p n laid nodes least false) (w : ℕ) where
  some_more : 0 < length (p ++ w ∷ [])
  some_more = omega (arith, length_push p w)

  pub stands_line : nodes ≡ [] → program_kind_of w ≡ Some kind.Line → ProgramStands (p ++ w ∷ []) n (laid + 1) nodes 0 false
  stands_line none e =
      record {
        some = some_more;
        count = push_count p w s.some ∙ s.count;
        lines = push_lines p w ∙ ap (λ κ. lines_in p + cond (is_line κ) 1 0) e ∙ ap (λ m. m + 1) s.lines;
        cells = push_cells p w (Some kind.Line) e ∙ append-nil (cells_in p) ∙ s.cells;
        least = push_least p w (Some kind.Line) e;
        cell = push_in_cell p w (Some kind.Line) e ∙ sym (ap (λ l. ltb 0 (length l) && true) none);
        output = push_output p w (Some kind.Line) e;
      }

  pub stands_cell : program_kind_of w ≡ Some kind.Cell → ProgramStands (p ++ w ∷ []) n laid (nodes ++ field 0 5 w ∷ []) 0 false
  stands_cell e =
      record {
        some = some_more;
        count = push_count p w s.some ∙ s.count;
        lines = push_lines p w ∙ ap (λ κ. lines_in p + cond (is_line κ) 1 0) e ∙ add-zero _ ∙ s.lines;
        cells = push_cells p w (Some kind.Cell) e ∙ ap (λ l. l ++ field 0 5 w ∷ []) s.cells;
        least = push_least p w (Some kind.Cell) e;
        cell = push_in_cell p w (Some kind.Cell) e ∙ sym (ap (λ b. b && true) (lt-ltb 0 (length (nodes ++ field 0 5 w ∷ [])) (omega (arith, length_push nodes (field 0 5 w)))));
        output = push_output p w (Some kind.Cell) e;
      }

  -- a word that is neither line nor cell
  stands_as : (k : Option ProgramKind) (e : program_kind_of w ≡ k) → is_line k ≡ false → is_cell k ≡ false → 0 < length nodes → is_tap k ≡ not (is_array_output k) →
      ProgramStands (p ++ w ∷ []) n laid nodes (cond (is_tap k) (suc (field 0 6 w)) 0) (is_array_output k)
  stands_as k e line cell some kept =
      record {
        some = some_more;
        count = push_count p w s.some ∙ s.count;
        lines = push_lines p w ∙ ap (λ κ. lines_in p + cond (is_line κ) 1 0) e ∙ ap (λ b. lines_in p + cond b 1 0) line ∙ add-zero _ ∙ s.lines;
        cells = push_cells p w k e ∙ ap (λ b. cells_in p ++ cond b (field 0 5 w ∷ []) []) cell ∙ append-nil (cells_in p) ∙ s.cells;
        least = push_least p w k e;
        cell = push_in_cell p w k e ∙ ap (λ b. b || is_tap k) cell ∙ kept ∙ sym (ap (λ b. b && not (is_array_output k)) (lt-ltb 0 (length nodes) some));
        output = push_output p w k e;
      }

  pub stands_tap : 0 < length nodes → program_kind_of w ≡ Some kind.Tap → ProgramStands (p ++ w ∷ []) n laid nodes (suc (field 0 6 w)) false
  stands_tap h e = stands_as (Some kind.Tap) e refl refl h refl

  pub stands_array_output : 0 < length nodes → program_kind_of w ≡ Some kind.Output → ProgramStands (p ++ w ∷ []) n laid nodes 0 true
  stands_array_output h e = stands_as (Some kind.Output) e refl refl h refl
