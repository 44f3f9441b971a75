-- The text of a row, item by item.
use Rattle.std.proofs.Common.{◌≡◌, ℕ, List, [], ◌∷◌, Option, Some, None, codes, refl, sym, ap, ◌∙◌, append_assoc, append-nil}
use Rattle.std.specs.Fmt.{◌++?◌}
use Rattle.cases.specs.Printing.{after_spaces}

pub option_append-assoc : (o p q : Option (List ℕ)) → (o ++? p) ++? q ≡ o ++? p ++? q
option_append-assoc None p q = refl
option_append-assoc (Some a) None q = refl
option_append-assoc (Some a) (Some b) None = refl
option_append-assoc (Some a) (Some b) (Some c) = ap Some (append_assoc a b c)

pub option_append-nil : (o : Option (List ℕ)) → o ++? Some [] ≡ o
option_append-nil None = refl
option_append-nil (Some a) = ap Some (append-nil a)

-- an item's text moves from what is to come to what is written
pub item_written : {T : Type 0} (text : T → Option (List ℕ)) (done : Option (List ℕ)) (item : T) (items more : List T) → items ≡ item ∷ more
    → (done ++? Some (codes " ") ++? text item) ++? after_spaces text more ≡ done ++? after_spaces text items
item_written text done item items more parts =
    option_append-assoc done (Some (codes " ") ++? text item) (after_spaces text more)
    ∙ ap (λ o. done ++? o) (option_append-assoc (Some (codes " ")) (text item) (after_spaces text more) ∙ ap (after_spaces text) (sym parts))
