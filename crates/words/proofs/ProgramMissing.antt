-- Cells of distinct nodes, fewer than there are nodes, can be made up to a cell for each node.
use Rattle.std.proofs.Common.{◌≡◌, ℕ, zero, suc, ◌+◌, ◌<◌, true, false, eqb, ◌⊎◌, ◌≢◌, List, [], ◌∷◌, ◌++◌, length, get_or, sym, ap, ◌∙◌, subst, inl, inr, ⊎_elim, append_assoc, arith}
use Rattle.std.specs.List.{All, AllPairs, list_any}
use Rattle.std.specs.Set.{is_member}
use Rattle.std.proofs.lemmas.List.{append-nil, length_push, length-map}
use Rattle.std.proofs.lemmas.List.Elements.{All-push}
use Rattle.std.proofs.lemmas.List.Quantifiers.{all_pairs_push}
use Rattle.std.proofs.lemmas.Map.Steps.{le-length_from_below}
use Rattle.std.proofs.lemmas.Bool.{both_ways, cases_Bool, cases_eq, eq-eqb, or_parts}
use Rattle.words.specs.declared.program_table.Cell.{Cell}
use Rattle.words.specs.ProgramTables.{CellInRange}
use Rattle.words.specs.ProgramDrafts.{nodes_of}

-- each number below m is in the list, or one of them is not
scan : (nodes : List ℕ) (m : ℕ) → ((q : ℕ) → q < m → list_any (eqb q) nodes ≡ true) ⊎ ((i : ℕ) × (i < m) × (is_member eqb nodes i ≡ false))
scan nodes zero = inl (λ q l. absurd (omega arith))
scan nodes (suc m) =
    ⊎_elim
    (λ (t : is_member eqb nodes m ≡ true).
    ⊎_elim
    (λ (all : (q : ℕ) → q < m → list_any (eqb q) nodes ≡ true).
    inl (λ q l.
    ⊎_elim
    (λ (e : q ≡ m). ap (is_member eqb nodes) e ∙ t)
    (λ (ne : q ≡ m → ⊥). all q (omega (arith, ne)))
    (cases_eq q m)))
    (λ (lack : (i : ℕ) × (i < m) × (is_member eqb nodes i ≡ false)). inr (lack.0, omega (arith, lack.1), lack.2))
    (scan nodes m))
    (λ (f : is_member eqb nodes m ≡ false). inr (m, omega arith, f))
    (cases_Bool (is_member eqb nodes m))

missing : (nodes : List ℕ) (n : ℕ) → length nodes < n → (i : ℕ) × (i < n) × (is_member eqb nodes i ≡ false)
missing nodes n short =
    ⊎_elim
    (λ (all : (q : ℕ) → q < n → list_any (eqb q) nodes ≡ true). absurd (omega (arith, le-length_from_below nodes n all)))
    (λ (lack : (i : ℕ) × (i < n) × (is_member eqb nodes i ≡ false)). lack)
    (scan nodes n)

-- no cell has a node that is not among theirs
pub none_has : (cells : List Cell) (i : ℕ) → is_member eqb (nodes_of cells) i ≡ false → (k : ℕ) (d : Cell) → k < length cells → (get_or cells k d).node ≢ i
none_has [] i none k d l = absurd (omega arith)
none_has (c ∷ cells) i none zero d l = λ e. both_ways (eqb i c.node) (or_parts (eqb i c.node) (is_member eqb (nodes_of cells) i) none).0 (eq-eqb i c.node (sym e))
none_has (c ∷ cells) i none (suc k) d l = none_has cells i (or_parts (eqb i c.node) (is_member eqb (nodes_of cells) i) none).1 k d (omega arith)

-- a cell with no taps
abbrev fresh : ℕ → Cell
fresh i = record { node = i; operation = 0; lag = 0; taps = record { items = [] } }

module _ (n : ℕ) where
  fresh_in_range : (i : ℕ) → i < n → CellInRange n (fresh i)
  fresh_in_range i l =
      record { node = l; operation = omega arith; lag = omega arith; taps = λ k d m. absurd (omega arith); ascending = λ j k d l m. absurd (omega arith) }

  pub made_up : (m : ℕ) (cells : List Cell) → length cells + m ≡ n → All (CellInRange n) cells → AllPairs (λ c d. c.node ≢ d.node) cells →
      (more : List Cell) × (length (cells ++ more) ≡ n) × All (CellInRange n) (cells ++ more) × AllPairs (λ c d. c.node ≢ d.node) (cells ++ more)
  made_up zero cells long each apart = (
    [],
    omega (arith, ap length (append-nil cells)),
    subst (All (CellInRange n)) (sym (append-nil cells)) each,
    subst (AllPairs (λ c d. c.node ≢ d.node)) (sym (append-nil cells)) apart,
  )
  made_up (suc m) cells long each apart =
      let lack = missing (nodes_of cells) n (omega (arith, length-map cells (λ (c : Cell). c.node))) in
      let c : Cell = fresh lack.0 in
      let rest =
      made_up m (cells ++ c ∷ []) (omega (arith, length_push cells c)) (All-push (CellInRange n) cells c each (fresh_in_range lack.0 lack.1))
      (all_pairs_push (λ c d. c.node ≢ d.node) cells c apart (none_has cells lack.0 lack.2)) in
      let join : (cells ++ c ∷ []) ++ rest.0 ≡ cells ++ (c ∷ rest.0) = append_assoc cells (c ∷ []) rest.0 in (
        c ∷ rest.0,
        sym (ap length join) ∙ rest.1,
        subst (All (CellInRange n)) join rest.2,
        subst (AllPairs (λ c d. c.node ≢ d.node)) join rest.3,
      )
