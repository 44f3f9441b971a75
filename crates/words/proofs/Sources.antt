-- The sources of a design of n nodes.
use Rattle.std.proofs.Common.{◌≡◌, ℕ, ◌<◌, ◌≤◌, true, eqb, ltb, ⊎_elim, arith}
use Rattle.std.proofs.lemmas.Bool.{ltb-true, eqb-true, or_cases}
use Rattle.words.specs.Designs.{is_source, input, max_nodes, sources}

-- a source has its place in a row
pub source_place : (n j : ℕ) → n ≤ max_nodes → is_source n j ≡ true → j < sources
source_place n j few heard =
    ⊎_elim
    (λ (l : ltb j n ≡ true). omega (arith, ltb-true j n l))
    (λ (e : eqb j input ≡ true). omega (arith, eqb-true j input e))
    (or_cases (ltb j n) (eqb j input) heard)
