-- A delay line that is moved on, a place at a time.
use Rattle.std.proofs.Common.{◌≡◌, ℕ, ◌+◌, ◌<◌, ◌≤◌, List, [], ◌∷◌, ◌++◌, length, get_or, set, take, drop, sym, ap, ◌∙◌, add-one, append_assoc, arith}
use Rattle.std.proofs.Math.Seq.{set-append_seam}
use Rattle.std.proofs.lemmas.List.{take_more, drop_more, drop_all, length-take-le, get_or-append-add, get_or-drop, get_or_default, append-nil}

module _ {E : Type 0} (v : E) (old : List E) (k : ℕ) where
  abbrev moved : List E
  moved = v ∷ old

  front_long : k ≤ length old → length (take k moved) ≡ k
  front_long l = length-take-le k moved (omega arith)

  -- one place more is written
  pub shift_more : (x : E) (line : List E) → k < length old → line ≡ take k moved ++ drop k old → x ≡ get_or moved k x → set line k x ≡ take (k + 1) moved ++ drop (k + 1) old
  shift_more x line l is next =
      ap (λ xs. set xs k x) (is ∙ ap (λ ys. take k moved ++ ys) (drop_more old k x l))
      ∙ ap (λ n. set (take k moved ++ get_or old k x ∷ drop (k + 1) old) n x) (sym (front_long (omega arith)))
      ∙ set-append_seam (take k moved) (get_or old k x) (drop (k + 1) old) x
      ∙ ap (λ y. take k moved ++ y ∷ drop (k + 1) old) next
      ∙ sym (append_assoc (take k moved) (get_or moved k x ∷ []) (drop (k + 1) old))
      ∙ ap (λ xs. xs ++ drop (k + 1) old) (sym (take_more moved k x (omega arith)))

  -- the value that stood there comes next
  pub shift_next : (line : List E) (d e : E) → k < length old → line ≡ take k moved ++ drop k old → get_or line k d ≡ get_or moved (k + 1) e
  shift_next line d e l is =
      ap (λ xs. get_or xs k d) is
      ∙ ap (λ n. get_or (take k moved ++ drop k old) n d) {x = k} {y = length (take k moved) + 0} (omega (arith, front_long (omega arith)))
      ∙ get_or-append-add (take k moved) (drop k old) 0 d
      ∙ get_or-drop k old 0 d
      ∙ ap (λ n. get_or old n d) {x = k + 0} {y = k} (omega arith)
      ∙ get_or_default old k d e l
      ∙ ap (λ n. get_or moved n e) (sym (add-one k))

  -- after all places
  pub shift_all : (line : List E) → k ≡ length old → line ≡ take k moved ++ drop k old → line ≡ take (length old) moved
  shift_all line all is =
      is ∙ ap (λ n. take n moved ++ drop n old) all ∙ ap (λ xs. take (length old) moved ++ xs) (drop_all (length old) old (omega arith)) ∙ append-nil (take (length old) moved)
