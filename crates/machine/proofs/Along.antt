-- What holds of each word of a list, with the words before it.
use Rattle.std.proofs.Common.{ℕ, zero, suc, ◌<◌, List, [], ◌∷◌, ◌++◌, length, get_or, take, sym, subst, append_assoc, append-nil, arith}

module _ (P : List ℕ → ℕ → Type 0) where
  abbrev pub Along : List ℕ → List ℕ → Type 0
  Along before [] = Unit
  Along before (w ∷ ws) = P before w × Along (before ++ w ∷ []) ws

  pub along_join : (before xs ys : List ℕ) → Along before xs → Along (before ++ xs) ys → Along before (xs ++ ys)
  along_join before [] ys p q = subst (λ b. Along b ys) (append-nil before) q
  along_join before (x ∷ xs) ys p q = (p.0, along_join (before ++ x ∷ []) xs ys p.1 (subst (λ b. Along b ys) (sym (append_assoc before (x ∷ []) xs)) q))

  pub along_first : (before xs ys : List ℕ) → Along before (xs ++ ys) → Along before xs
  along_first before [] ys p = tt
  along_first before (x ∷ xs) ys p = (p.0, along_first (before ++ x ∷ []) xs ys p.1)

  pub along_rest : (before xs ys : List ℕ) → Along before (xs ++ ys) → Along (before ++ xs) ys
  along_rest before [] ys p = subst (λ b. Along b ys) (sym (append-nil before)) p
  along_rest before (x ∷ xs) ys p = subst (λ b. Along b ys) (append_assoc before (x ∷ []) xs) (along_rest (before ++ x ∷ []) xs ys p.1)

  -- at each place, the words before it being those that the list begins with
  pub along_at : (before ws : List ℕ) → Along before ws → (k : ℕ) → k < length ws → P (before ++ take k ws) (get_or ws k 0)
  along_at before [] p k l = absurd (omega arith)
  along_at before (w ∷ ws) p zero l = subst (λ b. P b w) (sym (append-nil before)) p.0
  along_at before (w ∷ ws) p (suc k) l = subst (λ b. P b (get_or ws k 0)) (append_assoc before (w ∷ []) (take k ws)) (along_at (before ++ w ∷ []) ws p.1 k (omega arith))

  pub along_all : (before ws : List ℕ) → ((k : ℕ) → k < length ws → P (before ++ take k ws) (get_or ws k 0)) → Along before ws
  along_all before [] each = tt
  along_all before (w ∷ ws) each = (
    subst (λ b. P b w) (append-nil before) (each 0 (omega arith)),
    along_all (before ++ w ∷ []) ws (λ k l. subst (λ b. P b (get_or ws k 0)) (sym (append_assoc before (w ∷ []) (take k ws))) (each (suc k) (omega arith))),
  )
