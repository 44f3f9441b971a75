-- A program word is made of its kind and its fields, and falls into them again.
use Rattle.std.proofs.Common.{◌≡◌, ℕ, ◌^◌, ◌<◌, refl, ap, ◌∙◌, arith, Some, None, Option}
use Rattle.std.proofs.lemmas.Bool.Decides.{nat_tests}
use Rattle.words.specs.declared.kinds.ProgramKind.{ProgramKind}
use Rattle.words.specs.declared.kinds.ProgramKind.TheVariants as kind
use Rattle.words.specs.Fields.{field, word_of, kind_number}
use Rattle.words.specs.ProgramKinds.{program_kind_of, program_numbered, program_number_of}
use Rattle.words.specs.Programs.{cell_word}

-- a word's kind is the one that it was made with
pub program_kind_made : (k : Option ProgramKind) (x : ℕ) → x < 2 ^ 28 → program_kind_of (word_of (program_number_of k) x) ≡ k
unfolding program_numbered
program_kind_made k x h = ap program_numbered (numbered k) ∙ back k
  where
    small : (κ : Option ProgramKind) → program_number_of κ < 16
    small (Some kind.Head) = omega arith
    small (Some kind.Line) = omega arith
    small (Some kind.Cell) = omega arith
    small (Some kind.Tap) = omega arith
    small (Some kind.Output) = omega arith
    small (Some kind.End) = omega arith
    small None = omega arith

    numbered : (κ : Option ProgramKind) → kind_number (word_of (program_number_of κ) x) ≡ program_number_of κ
    numbered κ = omega (arith, small κ)

    back : (κ : Option ProgramKind) → program_numbered (program_number_of κ) ≡ κ
    back (Some kind.Head) = refl
    back (Some kind.Line) = refl
    back (Some kind.Cell) = refl
    back (Some kind.Tap) = refl
    back (Some kind.Output) = refl
    back (Some kind.End) = refl
    back None = refl

-- a word of a program's kind has that kind's number
pub program_kind_found : (w : ℕ) (k : Option ProgramKind) → program_kind_of w ≡ k → 0 < program_number_of k → kind_number w ≡ program_number_of k
unfolding program_numbered
program_kind_found w k e h =
    let n : ℕ = kind_number w in
    let z : ◌≡◌ {A = Option ProgramKind} (program_numbered n) k = e in
    let m : program_number_of (program_numbered n) ≡ program_number_of k = ap program_number_of e in
    grind (arith, nat_tests)

-- a cell has three fields
pub whole_cell : (w : ℕ) → w < 2 ^ 32 → kind_number w ≡ 10 → field 25 3 w ≡ 0 → w ≡ cell_word (field 0 5 w) (field 5 8 w) (field 13 12 w)
whole_cell w fits k clear = omega arith

module _ (node operation lag : ℕ) (n : node < 32) (o : operation < 256) (l : lag < 4096) where
  pub cell_node : field 0 5 (cell_word node operation lag) ≡ node
  cell_node = omega arith

  pub cell_operation : field 5 8 (cell_word node operation lag) ≡ operation
  cell_operation = omega arith

  pub cell_lag : field 13 12 (cell_word node operation lag) ≡ lag
  cell_lag = omega arith

  pub cell_clear : field 25 3 (cell_word node operation lag) ≡ 0
  cell_clear = omega arith
