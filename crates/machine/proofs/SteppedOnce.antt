-- What a step leaves, of what its parts leave: the cells fire, the output is read, and the lines move on.
use Rattle.std.proofs.Common.{◌≡◌, ℕ, zero, suc, ◌+◌, true, cond, ltb, eqb, List, get_or, sum, take, drop, sym, refl, ap, ◌∙◌, subst, ⊎_elim, arith}
use Rattle.std.proofs.lemmas.List.{take_all, drop-drop}
use Rattle.std.proofs.lemmas.Bool.{cond-true, cond-false, eq-eqb, ne_eqb, cases_eq}
use Rattle.words.specs.declared.program_table.ProgramTable.{ProgramTable}
use Rattle.words.specs.Designs.{input, is_source}
use Rattle.words.specs.ProgramTables.{ProgramInRange}
use Rattle.cells.specs.Meaning.{Meaning}
use Rattle.machine.specs.Arrays.{array_in}
use Rattle.machine.specs.Buffers.{rest_place}
use Rattle.machine.specs.Fired.{CellsFired, heard_by}
use Rattle.machine.specs.Machines.{registers_of}
use Rattle.machine.specs.Moving.{newest_of, LinesMoved}
use Rattle.machine.specs.Steps.{Registers, hears, line_place, present_place, needed, Reached, Steps}
use Rattle.machine.specs.Wirings.{register_at}
use Rattle.machine.proofs.CellsFiring.{line_inside}
use Rattle.machine.proofs.Histories.{source_node, node_source}
use Rattle.machine.proofs.Loaded.{rank_low}
use Rattle.machine.proofs.Parts.{alike_from}
use Rattle.machine.proofs.Resting.{place_low}

module _ {E A : Type 0} (t : ProgramTable) (range : ProgramInRange t) (reached : Reached (array_in t) t.lines.items) (m : Meaning E A) (cycle : ℕ) (x d : E) (before mid after : List E) (y : E)
    (fired : CellsFired t m cycle x d before mid t.count) (moved : LinesMoved t.count t.lines.items x d mid after (t.count + 1))
    (out : y ≡ get_or mid (register_at t.count t.lines.items t.output.source t.output.delay) d) where
  abbrev n : ℕ
  n = t.count

  abbrev lines : List ℕ
  lines = t.lines.items

  abbrev old : Registers E
  old = registers_of t before d

  abbrev new : Registers E
  new = registers_of t after d

  all_lines : sum (take (n + 1) lines) ≡ sum lines
  all_lines = ap sum (take_all (n + 1) lines (omega (arith, range.lines)))

  rest : drop (sum lines) after ≡ drop (sum lines) mid
  rest = subst (λ s. drop s after ≡ drop s mid) all_lines moved.rest

  -- present values stay when lines move on
  presents : ((registers_of t mid d).present) ≡ new.present
  presents = λ s i. sym (alike_from after mid (sum lines) (present_place lines i) d rest (omega arith)) s

  node_place : (j : ℕ) → is_source n j ≡ true → (j ≡ input → ⊥) → rest_place n j ≡ j
  node_place j s node = cond-false (eqb j input) n j (ne_eqb j input node)

  input_place : (j : ℕ) → j ≡ input → rest_place n j ≡ n
  input_place j e = cond-true (eqb j input) n j (eq-eqb j input e)

  -- what comes to the front of a line
  newest : (j : ℕ) → is_source n j ≡ true → newest_of n lines x d mid (rest_place n j) ≡ hears old.line new.present x j 0
  newest j s =
      ⊎_elim
      (λ (outside : j ≡ input).
      ap (newest_of n lines x d mid) (input_place j outside) ∙ cond-true (eqb n n) x (get_or mid (present_place lines n) d) (eq-eqb n n refl)
      ∙ sym (cond-true (eqb j input) x (new.present j) (eq-eqb j input outside)))
      (λ (node : j ≡ input → ⊥).
      ap (newest_of n lines x d mid) (node_place j s node)
      ∙ cond-false (eqb j n) x (get_or mid (present_place lines j) d) (ne_eqb j n (λ e. omega (arith, source_node n j s node)))
      ∙ ap (λ f. f j) presents ∙ sym (cond-false (eqb j input) x (new.present j) (ne_eqb j input node)))
      (cases_eq j input)

  output_at : (delay : ℕ) → t.output.delay ≡ delay → get_or mid (register_at n lines t.output.source delay) d ≡ hears old.line new.present x t.output.source delay
  output_at zero e =
      ap (λ f. f t.output.source) presents ∙ sym (cond-false (eqb t.output.source input) x (new.present t.output.source) (ne_eqb t.output.source input (λ i. omega (arith, i, range.few, range.output_node))))
  output_at (suc p) e = fired.lines (line_place n lines t.output.source p) (line_inside t range t.output.source p (node_source n t.output.source range.output_node) (omega (arith, e, reached.output)))

  pub stepped_once : Steps (array_in t) lines m cycle x old new y
  stepped_once =
      record {
        present = λ i l.
            sym (ap (λ f. f i) presents) ∙ fired.fired i l (rank_low t range i l)
            ∙ ap (λ f. cond (ltb cycle ((array_in t).lag i)) (get_or before (present_place lines i) d) (heard_by (array_in t) m x old (record { line = new.line; present = f }) i)) presents;
        output = out ∙ output_at t.output.delay refl;
        newest = λ j s l.
            ap (λ q. get_or after q d) {x = line_place n lines j 0} {y = sum (take (rest_place n j) lines)} (omega arith)
            ∙ moved.newest (rest_place n j) (omega (arith, place_low n j s)) l ∙ newest j s;
        moved = λ j p s l.
            moved.moved (rest_place n j) p (omega (arith, place_low n j s)) l
            ∙ fired.lines (line_place n lines j p) (line_inside t range j p s (omega arith));
      }

  pub past_once : drop (needed n lines) after ≡ drop (needed n lines) before
  past_once = sym (drop-drop n (sum lines) after) ∙ ap (drop n) rest ∙ drop-drop n (sum lines) mid ∙ fired.past
