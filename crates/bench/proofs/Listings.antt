-- The steps of listing words.
use Rattle.std.proofs.Common.{◌≡◌, ℕ, ◌+◌, ◌*◌, ◌<◌, ◌≤◌, List, [], ◌∷◌, length, get_or, take, sym, refl, ap, ◌∙◌, ap₂, arith}
use Rattle.std.proofs.lemmas.List.{flat_map_more, length-append, take_more, length-take-le}
use Rattle.bench.specs.Buffers.{overlaid}
use Rattle.bench.specs.Listing.{line_of, listed}
use Rattle.bench.proofs.Overlays.{overlaid_join}

pub listed_length : (ws : List ℕ) → length (listed ws) ≡ length ws * 9
listed_length [] = refl
listed_length (w ∷ ws) = length-append (line_of w) (listed ws) ∙ omega (arith, listed_length ws)

-- one line more
pub lines_more : (b t after ws : List ℕ) (k : ℕ) → k < length ws → length ws * 9 ≤ length b → t ≡ overlaid b 0 (listed (take k ws)) → after ≡ overlaid t (k * 9) (line_of (get_or ws k 0)) →
    after ≡ overlaid b 0 (listed (take (k + 1) ws))
lines_more b t after ws k l room inv wrote =
    let so_far : List ℕ = listed (take k ws) in
    let long : length so_far ≡ k * 9 = listed_length (take k ws) ∙ ap (λ n. n * 9) (length-take-le k ws (omega arith)) in
    let place : k * 9 ≡ 0 + length so_far = omega arith in
    wrote ∙ ap₂ (λ x n. overlaid x n (line_of (get_or ws k 0))) inv place ∙ overlaid_join b 0 so_far (line_of (get_or ws k 0)) (omega arith)
    ∙ ap (overlaid b 0) (flat_map_more line_of [] (take k ws) (get_or ws k 0) ∙ ap listed (sym (take_more ws k 0 l)))
