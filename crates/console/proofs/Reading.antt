-- What is read of a reader's known bytes, up to a limit.
use Rattle.std.proofs.Common.{◌≡◌, ℕ, List, [], ◌++◌, take, Option, Some, None, IfSome, ap, ◌∙◌}
use Rattle.std.specs.Option.{option_map}

pub first_read : (n : ℕ) (known : Option (List ℕ)) (start read : List ℕ) → start ≡ [] → IfSome (option_map (take n) known) (λ given. read ≡ start ++ given) → IfSome known (λ given. read ≡ take n given)
first_read n None start read e h = tt
first_read n (Some given) start read e h = h ∙ ap (λ xs. xs ++ take n given) e
