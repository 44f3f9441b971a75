-- Laws of a buffer that is written over.
use Rattle.std.proofs.Common.{◌≡◌, ℕ, ◌+◌, ◌≤◌, List, ◌++◌, length, take, drop, sym, ap, ◌∙◌, append_assoc, arith}
use Rattle.std.proofs.lemmas.List.{length-append, length-take-le, take_at, drop_at, drop-drop}
use borrow.Rule.Slice.PartMut.{put_mid}
use Rattle.bench.specs.Buffers.{overlaid}

module _ {X : Type 0} (b : List X) (at : ℕ) where
  module _ (xs : List X) where
    -- what is written so far, and what is left
    parts : overlaid b at xs ≡ (take at b ++ xs) ++ drop (at + length xs) b
    parts = sym (append_assoc (take at b) xs (drop (at + length xs) b))

    front : at ≤ length b → length (take at b ++ xs) ≡ at + length xs
    front l = length-append (take at b) xs ∙ ap (λ n. n + length xs) (length-take-le at b l)

    -- more items after them
    pub overlaid_join : (ys : List X) → at + length xs ≤ length b → overlaid (overlaid b at xs) (at + length xs) ys ≡ overlaid b at (xs ++ ys)
    overlaid_join ys l =
        let n : ℕ = at + length xs in
        let f = front (omega arith) in
        let before : take n (overlaid b at xs) ≡ take at b ++ xs = ap (take n) parts ∙ take_at (take at b ++ xs) (drop n b) n f in
        let sum : n + length ys ≡ at + length (xs ++ ys) = omega (arith, length-append xs ys) in
        let after : drop (n + length ys) (overlaid b at xs) ≡ drop (at + length (xs ++ ys)) b =
        sym (drop-drop (length ys) n (overlaid b at xs)) ∙ ap (λ l'. drop (length ys) (drop n l')) parts ∙ ap (drop (length ys)) (drop_at (take at b ++ xs) (drop n b) n f)
        ∙ drop-drop (length ys) n b ∙ ap (λ m. drop m b) sum in
        ap (λ p. p ++ (ys ++ drop (n + length ys) (overlaid b at xs))) before ∙ ap (λ r. (take at b ++ xs) ++ (ys ++ r)) after
        ∙ append_assoc (take at b) xs (ys ++ drop (at + length (xs ++ ys)) b) ∙ ap (λ r. take at b ++ r) (sym (append_assoc xs ys (drop (at + length (xs ++ ys)) b)))

-- a part of the buffer that is written over
pub overlaid_part : {X : Type 0} (b ys : List X) (at n : ℕ) → length ys ≡ n → put_mid at n b ys ≡ overlaid b at ys
overlaid_part b ys at n e = ap (λ r. take at b ++ (ys ++ r)) (drop-drop n at b ∙ ap (λ m. drop (at + m) b) (sym e))
