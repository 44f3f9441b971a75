-- The questions at a word, as the reader puts them to its draft.
use Rattle.std.proofs.Common.{◌≡◌, ℕ, Bool, true, false, not, ◌&&◌, eqb, ltb, leb, List, length, is_some, Some, None, refl, ap, ◌∙◌, arith, Option}
use Rattle.std.proofs.lemmas.Bool.{ne_eqb}
use Rattle.words.specs.declared.kinds.Kind.{Kind}
use Rattle.words.specs.declared.kinds.Kind.TheVariants as kind
use Rattle.words.specs.declared.draft.Draft.{Draft}
use Rattle.words.specs.Fields.{field}
use Rattle.words.specs.Kinds.{kind_of}
use Rattle.words.specs.Questions.{design_format, asked, may_stand, fields_in_range, in_order, count_of, nodes_in}
use Rattle.words.specs.Formats.{unnamed_of, clear_and_in_range, ends_well_in}
use Rattle.words.specs.declared.faults.WordsQuestion.TheVariants as question
use Rattle.words.specs.Refusals.{wrong_end}
use Rattle.words.specs.Drafts.{drafted, Sound}
use Rattle.words.specs.Taking.{Failed}
use Rattle.words.proofs.FormatAsking.{refuse_2, refuse_3, refuse_4, refuse_5, allow}

-- which kinds may stand after a draft's words
abbrev pub stands_of : Draft → Option Kind → Bool
stands_of d (Some kind.Head) = false
stands_of d (Some kind.Node) = ltb d.seen d.graph.count
stands_of d (Some kind.Feed) = ltb 0 d.seen && not (is_some d.output)
stands_of d (Some kind.Output) = (ltb 0 d.seen && not (is_some d.output)) && eqb d.seen d.graph.count
stands_of d (Some kind.End) = is_some d.output
stands_of d None = false

-- which words are in order after a draft's words
abbrev pub orders_of : Draft → ℕ → Option Kind → Bool
orders_of d w (Some kind.Head) = true
orders_of d w (Some kind.Node) = eqb (field 0 5 w) d.seen
orders_of d w (Some kind.Feed) = leb d.least (field 0 6 w)
orders_of d w (Some kind.Output) = true
orders_of d w (Some kind.End) = true
orders_of d w None = true

-- whether a word of that kind is clear where it must be, and its fields in range
abbrev pub in_range_of : Draft → ℕ → Option Kind → Bool
in_range_of d w k = eqb (unnamed_of design_format w k) 0 && fields_in_range d.graph.count w k

module _ (d : Draft) (s : Sound d) where
  may_stand_is : (k : Option Kind) → may_stand (drafted d) k ≡ stands_of d k
  may_stand_is (Some kind.Head) = ne_eqb _ _ (λ q. omega arith)
  may_stand_is (Some kind.Node) = ap (λ m. ltb m (count_of (drafted d))) s.stands.nodes ∙ ap (ltb d.seen) s.stands.count
  may_stand_is (Some kind.Feed) = s.stands.node
  may_stand_is (Some kind.Output) =
      ap (λ b. b && eqb (nodes_in (drafted d)) (count_of (drafted d))) s.stands.node
      ∙ ap (λ m. (ltb 0 d.seen && not (is_some d.output)) && eqb m (count_of (drafted d))) s.stands.nodes
      ∙ ap (λ m. (ltb 0 d.seen && not (is_some d.output)) && eqb d.seen m) s.stands.count
  may_stand_is (Some kind.End) = s.stands.output
  may_stand_is None = refl

  in_order_is : (w : ℕ) (k : Option Kind) → in_order (drafted d) w k ≡ orders_of d w k
  in_order_is w (Some kind.Head) = refl
  in_order_is w (Some kind.Node) = ap (eqb (field 0 5 w)) s.stands.nodes
  in_order_is w (Some kind.Feed) = ap (λ m. leb m (field 0 6 w)) s.stands.least
  in_order_is w (Some kind.Output) = refl
  in_order_is w (Some kind.End) = refl
  in_order_is w None = refl

  in_range_is : (w : ℕ) (k : Option Kind) → clear_and_in_range design_format (drafted d) w k ≡ in_range_of d w k
  in_range_is w k = ap (λ n. eqb (unnamed_of design_format w k) 0 && fields_in_range n w k) s.stands.count

  -- the answers at a word
  module _ (w : ℕ) (k : Option Kind) (e : kind_of w ≡ k) where
    pub no_2 : stands_of d k ≡ false → Failed (drafted d) w question.Kind
    no_2 a after = refuse_2 design_format (drafted d) w after k e (may_stand_is k ∙ a)

    pub no_3 : stands_of d k ≡ true → in_range_of d w k ≡ false → Failed (drafted d) w question.Range
    no_3 a b after = refuse_3 design_format (drafted d) w after k e (may_stand_is k ∙ a) (in_range_is w k ∙ b)

    pub no_4 : stands_of d k ≡ true → in_range_of d w k ≡ true → orders_of d w k ≡ false → Failed (drafted d) w question.Order
    no_4 a b c after = refuse_4 design_format (drafted d) w after k e (may_stand_is k ∙ a) (in_range_is w k ∙ b) (in_order_is w k ∙ c)

    pub no_5 : stands_of d k ≡ true → in_range_of d w k ≡ true → orders_of d w k ≡ true →
        (after : List ℕ) → ends_well_in design_format (drafted d) w after k ≡ false → asked (drafted d) w after ≡ Some (wrong_end (length (drafted d)))
    no_5 a b c after h = refuse_5 design_format (drafted d) w after k e (may_stand_is k ∙ a) (in_range_is w k ∙ b) (in_order_is w k ∙ c) h

  pub yes : (w : ℕ) (k : Option Kind) → kind_of w ≡ k → stands_of d k ≡ true → in_range_of d w k ≡ true → orders_of d w k ≡ true →
      (after : List ℕ) → ends_well_in design_format (drafted d) w after k ≡ true → asked (drafted d) w after ≡ None
  yes w k e a b c after h = allow design_format (drafted d) w after k e (may_stand_is k ∙ a) (in_range_is w k ∙ b) (in_order_is w k ∙ c) h
