-- A draft's words begin a program, and are all but its end where the output was read.
use Rattle.std.proofs.Common.{◌≡◌, ℕ, ◌+◌, ◌-◌, ◌<◌, ◌≤◌, true, false, cond, List, [], ◌∷◌, ◌++◌, length, get_or, replicate, sym, ap, ◌∙◌, ⊎_elim, append_assoc, arith}
use Rattle.std.specs.List.{All}
use Rattle.std.proofs.lemmas.List.{append-nil, length-append, length-replicate, get_or-replicate}
use Rattle.std.proofs.lemmas.List.Elements.{All-append}
use Rattle.std.proofs.lemmas.Bool.{cases_Bool}
use Rattle.words.specs.declared.program_table.Cell.{Cell}
use Rattle.words.specs.declared.program_table.ProgramTable.{ProgramTable}
use Rattle.words.specs.declared.program_draft.ProgramDraft.{ProgramDraft}
use Rattle.words.specs.Programs.{array_word, array_output_word, array_end_word}
use Rattle.words.specs.ProgramTables.{ProgramInRange, max_delay}
use Rattle.words.specs.ProgramEncoding.{line_words, cell_words, program_front, program_body, encoded_program}
use Rattle.words.specs.ProgramDrafts.{program_drafted, ProgramSound}
use Rattle.words.specs.Readings.{BeginsOne}
use Rattle.words.proofs.ProgramEncodings.{lines_join, cells_join}
use Rattle.words.proofs.ProgramMissing.{made_up}

-- the words of a draft whose output is still to come, and of one that is whole
pub front_words : (d : ProgramDraft) → d.complete ≡ false → program_drafted d ≡ program_front d.table
front_words d e = ap (λ b. program_front d.table ++ cond b (array_output_word d.table.output.source d.table.output.delay ∷ []) []) e ∙ append-nil (program_front d.table)

pub body_words : (d : ProgramDraft) → d.complete ≡ true → program_drafted d ≡ program_body d.table
body_words d e = ap (λ b. program_front d.table ++ cond b (array_output_word d.table.output.source d.table.output.delay ∷ []) []) e

pub whole_in_range : (d : ProgramDraft) → ProgramSound d → d.complete ≡ true → ProgramInRange d.table
whole_in_range d s e =
    let all = s.whole e in
    record {
      some = s.some;
      few = s.few;
      slowed = s.slowed;
      slow = s.slow;
      lines = s.lined (omega (arith, s.some));
      lengths = s.lengths;
      cells = all;
      ranges = s.ranges;
      apart = s.apart;
      output_node = s.output_node;
      output_delay = s.output_delay;
    }

-- lines and cells, with more of either after them; there are no cells yet where a line comes
longer : (n : ℕ) (ls pad : List ℕ) (cs more : List Cell) (tail : List ℕ) → (0 < length cs → pad ≡ []) →
    (later : List ℕ) × ((line_words n 0 (ls ++ pad) ++ cell_words (cs ++ more)) ++ tail ≡ (line_words n 0 ls ++ cell_words cs) ++ later)
unfolding cell_words
longer n ls pad [] more tail none =
    let l : List ℕ = line_words n 0 ls in
    let p : List ℕ = line_words n (0 + length ls) pad in (
      (p ++ cell_words more) ++ tail,
      ap (λ ws. (ws ++ cell_words more) ++ tail) (lines_join n 0 ls pad) ∙ ap (λ ws. ws ++ tail) (append_assoc l p (cell_words more)) ∙ append_assoc l (p ++ cell_words more) tail
          ∙ ap (λ ws. ws ++ ((p ++ cell_words more) ++ tail)) (sym (append-nil l)),
    )
longer n ls pad (c ∷ cs) more tail none =
    let l : List ℕ = line_words n 0 ls in
    let w : List ℕ = cell_words (c ∷ cs) in (
      cell_words more ++ tail,
      ap (λ ks. (line_words n 0 ks ++ cell_words ((c ∷ cs) ++ more)) ++ tail) (ap (λ ks. ls ++ ks) (none (omega arith)) ∙ append-nil ls)
          ∙ ap (λ ws. (l ++ ws) ++ tail) (cells_join (c ∷ cs) more) ∙ ap (λ ws. ws ++ tail) (sym (append_assoc l w (cell_words more))) ∙ append_assoc (l ++ w) (cell_words more) tail,
    )

short_zeros : (n : ℕ) → All (λ l. l ≤ max_delay) (replicate n 0)
short_zeros n k d l =
    let e : get_or (replicate n 0) k d ≡ 0 = get_or-replicate n k 0 d (omega (arith, length-replicate {A = ℕ} n 0)) in omega arith

-- the program with the lines and cells that are missing
begins_open : (d : ProgramDraft) → ProgramSound d → d.complete ≡ false → BeginsOne ProgramInRange encoded_program (program_drafted d)
unfolding encoded_program
begins_open d s e =
    let n : ℕ = d.table.count in
    let ls : List ℕ = d.table.lines.items in
    let cs : List Cell = d.table.cells.items in
    let gap : ℕ = n + 1 - length ls in
    let pad : List ℕ = replicate gap 0 in
    let long : length pad ≡ gap = length-replicate {A = ℕ} gap 0 in
    let up = made_up n (n - length cs) cs (omega (arith, s.cells)) s.ranges s.apart in
    let p : ProgramTable =
    record {
      count = n;
      factor = d.table.factor;
      lines = record { items = ls ++ pad };
      cells = record { items = cs ++ up.0 };
      output = d.table.output;
    } in
    let r : ProgramInRange p =
    record {
      some = s.some;
      few = s.few;
      slowed = s.slowed;
      slow = s.slow;
      lines = omega (arith, length-append ls pad, long, s.lines);
      lengths = All-append (λ l. l ≤ max_delay) ls pad s.lengths (short_zeros gap);
      cells = up.1;
      ranges = up.2;
      apart = up.3;
      output_node = s.output_node;
      output_delay = s.output_delay;
    } in
    let o : ℕ = array_output_word d.table.output.source d.table.output.delay in
    let x : ℕ = array_end_word (length (program_body p) + 1) in
    let after = longer n ls pad cs up.0 (o ∷ (x ∷ [])) (λ h. let none : gap ≡ 0 = omega (arith, s.lined h) in ap (λ m. replicate m 0) none) in
    let front : List ℕ = line_words n 0 (ls ++ pad) ++ cell_words (cs ++ up.0) in
    let more : (front ++ o ∷ []) ++ x ∷ [] ≡ (line_words n 0 ls ++ cell_words cs) ++ after.0 = append_assoc front (o ∷ []) (x ∷ []) ∙ after.1 in
    let whole : encoded_program p ≡ program_front d.table ++ after.0 = ap (λ ws. array_word n d.table.factor ∷ ws) more in
    (p, after.0, r, whole ∙ ap (λ ws. ws ++ after.0) (sym (front_words d e)))

-- a draft's words begin a program
pub program_begins : (d : ProgramDraft) → ProgramSound d → BeginsOne ProgramInRange encoded_program (program_drafted d)
unfolding encoded_program
program_begins d s =
    ⊎_elim
    (λ (e : d.complete ≡ true).
    let x : ℕ = array_end_word (length (program_body d.table) + 1) in
    (d.table, x ∷ [], whole_in_range d s e, ap (λ ws. ws ++ x ∷ []) (sym (body_words d e))))
    (λ (e : d.complete ≡ false). begins_open d s e)
    (cases_Bool d.complete)
