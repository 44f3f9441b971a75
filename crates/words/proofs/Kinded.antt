-- What a word of one kind is known to be.
use Rattle.std.proofs.Common.{◌≡◌, ◌-◌, Bool, eqb, Some, ap, ◌∙◌}
use Rattle.words.specs.declared.kinds.Word.{Word}
use Rattle.words.specs.declared.kinds.FormatKind.{Ghosts}
use Rattle.words.specs.Fields.{field, kind_number}

module _ {K : Type 0} {g : Ghosts K} (w : Word K g) (k : K) (e : w.kind ≡ k) where
  pub kind_as : g.numbered (kind_number w.word) ≡ Some k
  kind_as = w.kinded ∙ ap Some e

  pub clear_as : {b : Bool} → b ≡ eqb (field (g.named (Some w.kind)) (28 - g.named (Some w.kind)) w.word) 0 → b ≡ eqb (field (g.named (Some k)) (28 - g.named (Some k)) w.word) 0
  clear_as h = h ∙ ap (λ κ. eqb (field (g.named (Some κ)) (28 - g.named (Some κ)) w.word) 0) e
