-- The cells that a program has named so far, a word at a time.
use Rattle.std.proofs.Common.{◌≡◌, ℕ, ◌+◌, ◌-◌, ◌<◌, ◌≤◌, Bool, true, false, cond, List, [], ◌∷◌, ◌++◌, map, filter, length, get_or, set, take, replicate, sym, refl, ap, ◌∙◌, ⊎_elim, arith}
use Rattle.std.proofs.lemmas.List.{length-append, length-set, length-replicate, take-append-le, take_all, map-append, append-nil, get_or-replicate, get_or-set_same, get_or-set_other, get_or_past}
use Rattle.std.proofs.lemmas.List.Elements.{filter_more}
use Rattle.std.proofs.lemmas.Bool.{cond-true, cond-false, cases_lt, cases_eq}
use Rattle.words.specs.Fields.{field}
use Rattle.words.specs.ProgramKinds.{program_kind_of, is_cell}
use Rattle.words.specs.ProgramQuestions.{cells_in}
use Rattle.words.specs.Designs.{max_nodes}
use Rattle.bench.specs.Firing.{has}
use Rattle.bench.proofs.Lists.{has_new, has_other}
use Rattle.machine.specs.declared.named.Named.{Named}
use Rattle.machine.specs.Loading.{earlier_in, Marks, Names}

-- before the first word
pub cells_none : cells_in [] ≡ []
unfolding cells_in
cells_none = refl

pub earlier_none : earlier_in [] ≡ []
earlier_none = ap (λ cells. take (length cells - 1) cells) cells_none

abbrev of_cell : ℕ → Bool
of_cell w = is_cell (program_kind_of w)

module _ (words : List ℕ) (k : ℕ) (l : k < length words) where
  more : cells_in (take (k + 1) words) ≡ cells_in (take k words) ++ map (field 0 5) (cond (of_cell (get_or words k 0)) (get_or words k 0 ∷ []) [])
  unfolding cells_in
  more = ap (map (field 0 5)) (filter_more of_cell words k 0 l) ∙ map-append (field 0 5) (filter of_cell (take k words)) (cond (of_cell (get_or words k 0)) (get_or words k 0 ∷ []) [])

  -- a cell word names its node
  pub cells_more : of_cell (get_or words k 0) ≡ true → cells_in (take (k + 1) words) ≡ cells_in (take k words) ++ field 0 5 (get_or words k 0) ∷ []
  cells_more is = more ∙ ap (λ ws. cells_in (take k words) ++ map (field 0 5) ws) (cond-true (of_cell (get_or words k 0)) (get_or words k 0 ∷ []) [] is)

  -- any other names none
  pub cells_same : of_cell (get_or words k 0) ≡ false → cells_in (take (k + 1) words) ≡ cells_in (take k words)
  cells_same is =
      more ∙ ap (λ ws. cells_in (take k words) ++ map (field 0 5) ws) (cond-false (of_cell (get_or words k 0)) (get_or words k 0 ∷ []) [] is) ∙ append-nil (cells_in (take k words))

  -- the earlier cells of a new cell are all before it
  pub earlier_more : of_cell (get_or words k 0) ≡ true → earlier_in (take (k + 1) words) ≡ cells_in (take k words)
  earlier_more is =
      let xs = cells_in (take k words) in
      let new : List ℕ = field 0 5 (get_or words k 0) ∷ [] in
      ap (λ cells. take (length cells - 1) cells) (cells_more is)
      ∙ ap (λ n. take n (xs ++ new)) {x = length (xs ++ new) - 1} {y = length xs} (omega (arith, length-append xs new))
      ∙ take-append-le (length xs) xs new (omega arith) ∙ take_all (length xs) xs (omega arith)

  pub earlier_same : of_cell (get_or words k 0) ≡ false → earlier_in (take (k + 1) words) ≡ earlier_in (take k words)
  earlier_same is = ap (λ cells. take (length cells - 1) cells) (cells_same is)

-- tables of nodes
pub marks_none : (n : ℕ) → Marks (replicate n false) []
unfolding has
marks_none n j = ⊎_elim (λ (l : j < n). get_or-replicate n j false false l) (λ (l : n ≤ j). get_or_past (replicate n false) j false (omega (arith, length-replicate n false))) (cases_lt j n)

pub marks_more : (table : List Bool) (nodes : List ℕ) (i : ℕ) → i < length table → Marks table nodes → Marks (set table i true) (nodes ++ i ∷ [])
marks_more table nodes i l marks j =
    ⊎_elim
    (λ (same : i ≡ j). ap (λ k. get_or (set table i true) k false) (sym same) ∙ get_or-set_same table i true false l ∙ sym (has_new nodes i) ∙ ap (has (nodes ++ i ∷ [])) same)
    (λ (other : i ≡ j → ⊥). get_or-set_other table i j true false (λ e. other (sym e)) ∙ marks j ∙ sym (has_other nodes i j other))
    (cases_eq i j)

-- with the word at k, what is kept of the cells before it
module _ (words : List ℕ) (k : ℕ) (l : k < length words) (named : Named) (names : Names (take k words) named) where
  pub names_more : of_cell (get_or words k 0) ≡ true → field 0 5 (get_or words k 0) < max_nodes → (after : Named) → after.all ≡ set named.all (field 0 5 (get_or words k 0)) true → after.earlier ≡ named.all →
      Names (take (k + 1) words) after
  names_more is low after all earlier =
      let w = get_or words k 0 in
      let node = field 0 5 w in
      record {
        table = ap length all ∙ length-set named.all node true ∙ names.table;
        all = λ j.
            ap (λ (t : List Bool). get_or t j false) all ∙ marks_more named.all (cells_in (take k words)) node (omega (arith, names.table)) names.all j
            ∙ ap (λ ns. has ns j) (sym (cells_more words k l is));
        earlier = λ j. ap (λ (t : List Bool). get_or t j false) earlier ∙ names.all j ∙ ap (λ ns. has ns j) (sym (earlier_more words k l is));
      }

  pub names_same : of_cell (get_or words k 0) ≡ false → Names (take (k + 1) words) named
  names_same is =
      record {
        table = names.table;
        all = λ j. names.all j ∙ ap (λ ns. has ns j) (sym (cells_same words k l is));
        earlier = λ j. names.earlier j ∙ ap (λ ns. has ns j) (sym (earlier_same words k l is));
      }
