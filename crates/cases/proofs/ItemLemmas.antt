-- The row that a text's items make, when each is read in turn.
use Rattle.std.proofs.Common.{◌≡◌, ℕ, List, [], ◌∷◌, ◌++◌, Option, Some, None, Result, Ok, Err, IfOk, IfSome, MatchResult, Bor, sym, ◌∙◌, subst, append_assoc, append-nil}
use Rattle.std.specs.Str.Iter.{split_whitespace_rest, split_whitespace_steps}
use Rattle.std.specs.declared.str.SplitWhitespace.{SplitWhitespace}
use Rattle.std.specs.Result.{result_ok}
use Rattle.words.specs.declared.design.Design.{Design}
use Rattle.words.specs.declared.faults.Fault.{Fault}
use Rattle.words.specs.Encoding.{encoded}
use Rattle.words.specs.Reading.{Reads}
use Rattle.cases.specs.Rows.{StartsWithItem, IsRow}

-- what is read so far, with the row of what is left, is the row of the text
abbrev pub ReadsSoFar : {T : Type 0} → (List ℕ → T → Type 0) → List ℕ → List ℕ → List T → Type 0
ReadsSoFar StandsFor text left values = (more : List _) → IsRow StandsFor left more → IsRow StandsFor text (values ++ more)

module _ {T : Type 0} (StandsFor : List ℕ → T → Type 0) (text : List ℕ) (s t : SplitWhitespace) (values : List T) (so_far : ReadsSoFar StandsFor text (split_whitespace_rest s) values) where
  -- an item that comes off what is left is read
  pub reads_next : (item : Bor (List ℕ)) (value : T) → split_whitespace_steps s (Some item) t → StandsFor item.now value → ReadsSoFar StandsFor text (split_whitespace_rest t) (values ++ (value ∷ []))
  reads_next item value step says more row =
      let front : StartsWithItem (split_whitespace_rest s) item.now (split_whitespace_rest t) = record { gap = step.0; split = step.1; some = step.2; gap_is_white = step.3; item_has_no_white = step.4; parted = step.5 } in
      subst (IsRow StandsFor text) (sym (append_assoc values (value ∷ []) more)) (so_far (value ∷ more) (item.now, split_whitespace_rest t, front, says, row))

  -- where no item is left, all is read
  pub reads_all : split_whitespace_steps s None t → IsRow StandsFor text values
  reads_all ends = subst (IsRow StandsFor text) (append-nil values) (so_far [] ends.1)

-- what each item stands for may be said in other words
pub IsRow-weaker : {T : Type 0} (P Q : List ℕ → T → Type 0) → ((item : List ℕ) (value : T) → P item value → Q item value) → (text : List ℕ) (values : List T) → IsRow P text values
    → IsRow Q text values
IsRow-weaker P Q says text [] row = row
IsRow-weaker P Q says text (value ∷ values) row = (row.0, row.1, row.2, says row.0 value row.3, IsRow-weaker P Q says row.1 values row.4)

-- where reading is asked for its design alone, the words are still those of the design
pub words_of_design : (words : List ℕ) (p : Result Design Fault) (o : Option Design) {E : Type 0} (r : Result Design E) (Refused : E → Type 0) → Reads words p → o ≡ result_ok p
    → MatchResult r (λ design. o ≡ Some design) Refused → IfOk r (λ design. words ≡ encoded design.graph)
words_of_design words p o (Err e) Refused reads was is = tt
words_of_design words (Ok read) o (Ok design) Refused reads was is = subst (λ q. IfSome q (λ d. words ≡ encoded d.graph)) (sym was ∙ is) (sym reads.1)
words_of_design words (Err fault) o (Ok design) Refused reads was is = let clash = sym was ∙ is in cc
