-- The reader's head, and its ways out.
use Rattle.std.proofs.Common.{◌≡◌, ℕ, ◌+◌, ◌^◌, ◌<◌, ◌≤◌, true, false, ◌&&◌, eqb, leb, List, [], ◌∷◌, ◌++◌, length, is_some, Some, None, Ok, Err, Option, Result, sym, refl, ap, ◌∙◌, subst, arith}
use Rattle.std.proofs.lemmas.List.{length-replicate, get_or-replicate}
use Rattle.std.proofs.lemmas.Bool.{true≢false, and_parts, eqb-true, and_from, eq-eqb, le-leb, ne_eqb}
use Rattle.std.specs.Option.{unwrap_or}
use Rattle.words.specs.declared.faults.Fault.{Fault}
use Rattle.words.specs.declared.design.Design.{Design}
use Rattle.words.specs.declared.draft.Draft.{Draft}
use Rattle.words.specs.declared.kinds.Kind.{Kind}
use Rattle.words.specs.declared.kinds.Kind.TheVariants as kind
use Rattle.words.specs.Fields.{field}
use Rattle.words.specs.Kinds.{kind_of, kind_numbered, is_end}
use Rattle.words.specs.Designs.{NodeInRange, InRange, blank, absent, max_nodes}
use Rattle.words.specs.Encoding.{head_word, end_word, node_words, encoded}
use Rattle.words.specs.Questions.{design_format, asked, may_stand, count_of, nodes_in, in_node, after_output, refused}
use Rattle.words.specs.Refusals.{misplaced, out_of_range}
use Rattle.words.specs.declared.faults.WordsQuestion.TheVariants as question
use Rattle.words.specs.declared.graph.Output.{Output}
use Rattle.words.specs.Drafts.{drafted, Sound, Stands, headed, finished}
use Rattle.words.specs.Taking.{Passed, Failed}
use Rattle.words.specs.Formats.{clear_and_in_range, ends_well_in}
use Rattle.words.specs.Readings.{EndsIn}
use Rattle.words.specs.Reading.{Begins, Reads, ReadsBack}
use Rattle.words.proofs.Wholes.{whole_one, kind_found}
use Rattle.words.proofs.Standing.{stands_head}
use Rattle.words.proofs.FormatAsking.{refuse_2, refuse_3, allow}
use Rattle.words.proofs.Drafting.{blank_none, none_some, finished_words}
use Rattle.words.proofs.Ranges.{ranges}
use Rattle.words.proofs.Walking.{encoded_passes}
use Rattle.words.proofs.Telling.{encoded_tells}
use Rattle.words.proofs.Stopping.{begins}
use Rattle.words.proofs.FormatStopping.{passed}

-- a design of blank nodes
pub blank_in_range : (n : ℕ) → 1 ≤ n → n ≤ max_nodes → InRange (headed n).graph
blank_in_range n some few =
    record {
      some = some;
      few = few;
      table = length-replicate max_nodes blank;
      nodes = λ i l. subst (NodeInRange n) (sym (get_or-replicate max_nodes i blank absent l)) (record {
        operation = omega arith;
        row = refl;
        delays = λ j d h. absurd (true≢false (ap is_some (sym h ∙ blank_none j)));
        heard = λ j d h. absurd (true≢false (ap is_some (sym h ∙ blank_none j)));
      });
      rest = λ i l m. get_or-replicate max_nodes i blank absent m;
      output_node = some;
      output_delay = omega arith;
    }

-- no words begin every design
pub begins_none : Begins []
begins_none = ((headed 1).graph, encoded (headed 1).graph, blank_in_range 1 (omega arith) (omega arith), refl)

-- before the head no other kind may stand
none_first : (k : Option Kind) → (k ≡ (Some kind.Head) → ⊥) → may_stand [] k ≡ false
unfolding nodes_in count_of in_node after_output kind_numbered
none_first (Some kind.Head) ne = absurd (ne refl)
none_first (Some kind.Node) ne = refl
none_first (Some kind.Feed) ne = refl
none_first (Some kind.Output) ne = refl
none_first (Some kind.End) ne = refl
none_first None ne = refl

pub first_2 : (w : ℕ) (after : List ℕ) → (kind_of w ≡ (Some kind.Head) → ⊥) → asked [] w after ≡ Some (misplaced 0)
first_2 w after ne = refuse_2 design_format [] w after (kind_of w) refl (none_first (kind_of w) ne)

pub first_3 : (w : ℕ) (after : List ℕ) → kind_of w ≡ (Some kind.Head) → (eqb (field 6 22 w) 0 && (leb 1 (field 0 6 w) && leb (field 0 6 w) max_nodes)) ≡ false →
    asked [] w after ≡ Some (out_of_range 0)
first_3 w after k h =
    refuse_3 design_format [] w after (Some kind.Head) k refl h

-- the head that passes
module _ (w : ℕ) (fits : w < 2 ^ 32) (k : kind_of w ≡ (Some kind.Head)) (clear : field 6 22 w ≡ 0) (some : 1 ≤ field 0 6 w) (few : field 0 6 w ≤ max_nodes) where
  head_whole : w ≡ head_word (field 0 6 w)
  head_whole = whole_one 6 22 1 w refl fits (kind_found w (Some kind.Head) k (omega arith)) clear

  head_drafted : drafted (headed (field 0 6 w)) ≡ w ∷ []
  unfolding node_words
  head_drafted = ap (λ v. v ∷ []) (sym head_whole)

  pub head_sound : Sound (headed (field 0 6 w))
  head_sound =
      record {
        ranges = blank_in_range (field 0 6 w) some few;
        seen = omega arith;
        rest = λ i l m. get_or-replicate max_nodes i blank absent m;
        least = λ _ i j h l. absurd (omega arith);
        output = λ o h. absurd (none_some h);
        stands = subst (λ ws. Stands ws (field 0 6 w) 0 0 false) (sym head_drafted) (stands_head w k);
      }

  pub head_passed : Passed [] w (drafted (headed (field 0 6 w)))
  head_passed = (
    head_drafted,
    begins (headed (field 0 6 w)) head_sound,
    λ after.
        allow design_format [] w after (Some kind.Head) k refl
        (and_from _ _ (eq-eqb _ _ clear) (and_from _ _ (le-leb _ _ some) (le-leb _ _ few))) refl refl,
  )

-- the end that passes: it comes after the output, and counts the words
end_kind : (k : Option Kind) → is_end k ≡ true → k ≡ Some kind.End
end_kind (Some kind.Head) h = absurd (true≢false (sym h))
end_kind (Some kind.Node) h = absurd (true≢false (sym h))
end_kind (Some kind.Feed) h = absurd (true≢false (sym h))
end_kind (Some kind.Output) h = absurd (true≢false (sym h))
end_kind (Some kind.End) h = refl
end_kind None h = absurd (true≢false (sym h))

pub end_passed : (p : List ℕ) (w given : ℕ) → EndsIn design_format p w given → (after_output p ≡ true) × (w ≡ end_word (length p + 1))
end_passed p w given e =
    let k : kind_of w ≡ Some kind.End = end_kind (kind_of w) e.end in
    let all = passed design_format p w [] e.passes in
    let clear : eqb (field 11 17 w) 0 ≡ true = (and_parts (eqb (field 11 17 w) 0) true (sym (ap (clear_and_in_range design_format p w) k) ∙ all.1)).0 in
    let count : eqb (field 0 11 w) (length p + 1) ≡ true = (and_parts (eqb (field 0 11 w) (length p + 1)) true (sym (ap (ends_well_in design_format p w []) k) ∙ all.3)).0 in (
      sym (ap (may_stand p) k) ∙ all.0,
      whole_one 11 17 5 w refl e.word (kind_found w (Some kind.End) k (omega arith)) (eqb-true _ _ clear) ∙ ap end_word (eqb-true _ _ count),
    )

-- so the draft has its output there, and the words with the end are those of the design
module _ (d : Draft) (s : Sound d) (p : List ℕ) (is : drafted d ≡ p) (w given : ℕ) (end : EndsIn design_format p w given) where
  whole_at_end : is_some d.output ≡ true
  whole_at_end = sym s.stands.output ∙ ap after_output is ∙ (end_passed p w given end).0

  pub output_at_end : (o : Output) → d.output ≡ Some (unwrap_or d.output o)
  output_at_end o = some_there d.output whole_at_end
    where
      some_there : (x : Option Output) → is_some x ≡ true → x ≡ Some (unwrap_or x o)
      some_there None h = absurd (true≢false (sym h))
      some_there (Some y) h = refl

  pub end_encoded : (o : Output) → d.output ≡ Some o → encoded (finished d o) ≡ p ++ w ∷ []
  unfolding encoded
  end_encoded o there =
      ap (λ ws. ws ++ end_word (length ws + 1) ∷ []) (sym (finished_words d s o there) ∙ is) ∙ ap (λ v. p ++ v ∷ []) (sym (end_passed p w given end).1)

-- no word stands where it has no kind, nor a head after the first
pub unknown : (p : List ℕ) (w : ℕ) → kind_of w ≡ None → Failed p w question.Kind
unknown p w e after = refuse_2 design_format p w after None e refl

pub headless : (p : List ℕ) (w : ℕ) → 0 < length p → kind_of w ≡ (Some kind.Head) → Failed p w question.Kind
headless p w some e after = refuse_2 design_format p w after (Some kind.Head) e (ne_eqb _ _ (λ q. omega arith))

-- every encoding is read as its design
pub back : (words : List ℕ) (r : Result Design Fault) → Reads words r → ReadsBack words r
back words (Ok d) h g n e = encoded_tells d.graph g (ranges d.graph d.sound) n (h.1 ∙ sym e)
back words (Err f) h g n e = true≢false (ap is_some (sym h.0 ∙ ap refused (sym e) ∙ encoded_passes g n))
