-- Running sums, an operand at a time.
use Rattle.std.proofs.Common.{◌≡◌, ℕ, ◌+◌, ◌<◌, ◌≤◌, List, length, get_or, take, sym, ap, ◌∙◌}
use Rattle.std.proofs.lemmas.List.{take_all}
use Rattle.std.proofs.lemmas.List.Sums.{fold_more}
use Rattle.cells.specs.Meaning.{Meaning, Operand, gathered, applied}

module _ {E A : Type 0} (m : Meaning E A) (operation : ℕ) (operands : List (Operand E)) where
  pub gathered_more : (n : Meaning E A) (i : ℕ) (sum more : A) (x : Operand E) → n ≡ m → i < length operands → x ≡ get_or operands i x → sum ≡ gathered m operation (take i operands) →
      more ≡ n.next operation x.0 sum x.1 → more ≡ gathered m operation (take (i + 1) operands)
  gathered_more n i sum more x same l item so_far is =
      is ∙ ap (λ (q : Meaning E A). q.next operation x.0 sum x.1) same ∙ ap (λ s. m.next operation x.0 s x.1) so_far
      ∙ ap (λ (y : Operand E). m.next operation y.0 (gathered m operation (take i operands)) y.1) item
      ∙ sym (fold_more (λ s (y : Operand E). m.next operation y.0 s y.1) (m.first operation) operands i x l)

  pub applied_all : (n : Meaning E A) (i : ℕ) (sum : A) (r : E) → n ≡ m → length operands ≤ i → sum ≡ gathered m operation (take i operands) → r ≡ n.element operation sum →
      r ≡ applied m operation operands
  applied_all n i sum r same l so_far is =
      is ∙ ap (λ (q : Meaning E A). q.element operation sum) same ∙ ap (m.element operation) so_far ∙ ap (λ xs. applied m operation xs) (take_all i operands l)
