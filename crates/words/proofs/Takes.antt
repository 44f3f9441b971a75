-- A word that passes every question: the draft with it.
use Rattle.std.proofs.Common.{◌≡◌, ℕ, ◌^◌, ◌<◌, ◌≤◌, true, not, is_some, List, [], ◌∷◌, ◌++◌, None, sym, refl, ap, ◌∙◌, arith, Some}
use Rattle.std.proofs.lemmas.Bool.{lt-ltb, le-leb, eq-eqb, and_from}
use Rattle.words.specs.declared.graph.Output.{Output}
use Rattle.words.specs.declared.kinds.Kind.TheVariants as kind
use Rattle.words.specs.declared.draft.Draft.{Draft}
use Rattle.words.specs.Fields.{field}
use Rattle.words.specs.Kinds.{kind_of}
use Rattle.words.specs.Designs.{is_source, byte}
use Rattle.words.specs.Encoding.{node_word, feed_word, output_word}
use Rattle.words.specs.Questions.{asked}
use Rattle.words.specs.Drafts.{drafted, Sound, node_read, feed_read, output_read}
use Rattle.words.specs.Taking.{Passed}
use Rattle.words.proofs.Sources.{source_place}
use Rattle.words.proofs.Stopping.{begins}
use Rattle.words.proofs.Wholes.{whole_two, kind_found}
use Rattle.words.proofs.Drafting.{still_open}
use Rattle.words.proofs.Drafted.{node_drafted, node_sound, feed_drafted, feed_sound, output_drafted, output_sound}
use Rattle.words.proofs.Taking.{yes}

-- what a word adds to a draft
abbrev pub Adds : Draft → Draft → ℕ → Type 0
Adds d e w = Sound e × Passed (drafted d) w (drafted e)

added : (d e : Draft) (w : ℕ) → Sound e → drafted e ≡ drafted d ++ w ∷ [] → ((after : List ℕ) → asked (drafted d) w after ≡ None) → Adds d e w
added d e w s q h = (s, (q, begins e s, h))

module _ (d : Draft) (s : Sound d) (w : ℕ) (fits : w < 2 ^ 32) where
  pub node_adds : kind_of w ≡ (Some kind.Node) → d.seen < d.graph.count → field 13 15 w ≡ 0 → field 0 5 w ≡ d.seen → Adds d (node_read d (field 5 8 w)) w
  node_adds k l clear number =
      let open' = still_open d s l in
      let small : field 5 8 w < byte = omega arith in
      let whole : w ≡ node_word d.seen (field 5 8 w) =
      whole_two 5 8 15 2 w refl fits (kind_found w (Some kind.Node) k (omega arith)) clear ∙ ap (λ i. node_word i (field 5 8 w)) number in
      added d (node_read d (field 5 8 w)) w (node_sound d s open' (field 5 8 w) l small w k whole)
      (node_drafted d s open' (field 5 8 w) l small ∙ ap (λ v. drafted d ++ v ∷ []) (sym whole))
      (λ after. yes d s w (Some kind.Node) k (lt-ltb _ _ l) (and_from _ _ (eq-eqb _ _ clear) (lt-ltb _ _ (omega arith))) (eq-eqb _ _ number) after refl)

  pub feed_adds : kind_of w ≡ (Some kind.Feed) → 0 < d.seen → d.output ≡ None → field 14 14 w ≡ 0 → is_source d.graph.count (field 0 6 w) ≡ true → d.least ≤ field 0 6 w →
      Adds d (feed_read d (field 0 6 w) (field 6 8 w)) w
  feed_adds k some open' clear heard above =
      let small : field 6 8 w < byte = omega arith in
      let place = source_place d.graph.count (field 0 6 w) s.ranges.few heard in
      let whole : w ≡ feed_word (field 0 6 w) (field 6 8 w) = whole_two 6 8 14 3 w refl fits (kind_found w (Some kind.Feed) k (omega arith)) clear in
      added d (feed_read d (field 0 6 w) (field 6 8 w)) w (feed_sound d s open' (field 0 6 w) (field 6 8 w) some above heard place small w k refl whole)
      (feed_drafted d s open' (field 0 6 w) (field 6 8 w) some above heard place small ∙ ap (λ v. drafted d ++ v ∷ []) (sym whole))
      (λ after. yes d s w (Some kind.Feed) k (and_from _ _ (lt-ltb _ _ some) (ap (λ o. not (is_some o)) open')) (and_from _ _ (eq-eqb _ _ clear) heard) (le-leb _ _ above) after refl)

  pub output_adds : kind_of w ≡ (Some kind.Output) → d.seen ≡ d.graph.count → d.output ≡ None → field 14 14 w ≡ 0 → field 0 6 w < d.graph.count →
      Adds d (output_read d (record { node = field 0 6 w; delay = field 6 8 w })) w
  output_adds k all open' clear node =
      let small : field 6 8 w < byte = omega arith in
      let some : 0 < d.seen = omega (arith, s.ranges.some) in
      let output : Output = record { node = field 0 6 w; delay = field 6 8 w } in
      let whole : w ≡ output_word output = whole_two 6 8 14 4 w refl fits (kind_found w (Some kind.Output) k (omega arith)) clear in
      added d (output_read d output) w (output_sound d s open' output all node small w k whole)
      (output_drafted d s open' output all node small ∙ ap (λ v. drafted d ++ v ∷ []) (sym whole))
      (λ after. yes d s w (Some kind.Output) k (and_from _ _ (and_from _ _ (lt-ltb _ _ some) (ap (λ o. not (is_some o)) open')) (eq-eqb _ _ all)) (and_from _ _ (eq-eqb _ _ clear) (lt-ltb _ _ node)) refl after refl)
