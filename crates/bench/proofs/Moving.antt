-- The steps of a move.
use Rattle.std.proofs.Common.{◌≡◌, ℕ, ◌+◌, ◌<◌, ◌*◌, List, [], ◌∷◌, ◌++◌, map, length, get_or, drop, set, ℤ, pos, ◌+ℤ◌, sym, ap, ◌∙◌, ap₂, append_assoc, arith}
use Rattle.std.specs.List.{range_with_len}
use Rattle.std.proofs.lemmas.List.FromFn.{length-map-range_with_len, map-range_with_len_more}
use Rattle.std.proofs.lemmas.List.{drop_more, get_or_at, set_at}
use Rattle.bench.specs.declared.retiming.NodeRecord.{NodeRecord}
use Rattle.bench.specs.Retimings.{unlagged}
use Rattle.bench.specs.Moves.{lag_fault_at, new_lag, new_record}

module _ (old now' : List NodeRecord) (factor : ℕ) (shifts : List ℤ) (k : ℕ) (l : k < length old)
    (inv : now' ≡ map (new_record old factor shifts) (range_with_len 0 k) ++ drop k old) where
  front : List NodeRecord
  front = map (new_record old factor shifts) (range_with_len 0 k)

  split : now' ≡ map (new_record old factor shifts) (range_with_len 0 k) ++ (get_or old k unlagged ∷ drop (k + 1) old)
  split = inv ∙ ap (λ rest. map (new_record old factor shifts) (range_with_len 0 k) ++ rest) (drop_more old k unlagged l)

  -- the record at hand is as it was
  pub record_at : get_or now' k unlagged ≡ get_or old k unlagged
  record_at =
      ap (λ rs. get_or rs k unlagged) split
      ∙ get_or_at (map (new_record old factor shifts) (range_with_len 0 k)) (get_or old k unlagged) (drop (k + 1) old) unlagged k (length-map-range_with_len (new_record old factor shifts) 0 k)

  -- so its lag to come is the one that the move asks about
  pub lag_of_record : pos ((get_or now' k unlagged).lag * factor) +ℤ get_or shifts k (pos 0) ≡ new_lag old factor shifts k
  lag_of_record = ap (λ (r : NodeRecord). pos (r.lag * factor) +ℤ get_or shifts k (pos 0)) record_at

  -- and what is wrong with it is what is wrong at its node
  pub fault_of_record : lag_fault_at (new_lag old factor shifts k) k ≡ lag_fault_at (pos ((get_or now' k unlagged).lag * factor) +ℤ get_or shifts k (pos 0)) k
  fault_of_record = sym (ap (λ z. lag_fault_at z k) lag_of_record)

  -- one record more is moved
  pub record_more : (new : NodeRecord) → new ≡ new_record old factor shifts k → set now' k new ≡ map (new_record old factor shifts) (range_with_len 0 (k + 1)) ++ drop (k + 1) old
  record_more new e =
      ap₂ (λ rs x. set rs k x) split e
      ∙ set_at (map (new_record old factor shifts) (range_with_len 0 k)) (get_or old k unlagged) (drop (k + 1) old) (new_record old factor shifts k) k (length-map-range_with_len (new_record old factor shifts) 0 k)
      ∙ sym (append_assoc (map (new_record old factor shifts) (range_with_len 0 k)) (new_record old factor shifts k ∷ []) (drop (k + 1) old))
      ∙ ap (λ rs. rs ++ drop (k + 1) old) (sym (map-range_with_len_more (new_record old factor shifts) 0 k k (omega arith)))
