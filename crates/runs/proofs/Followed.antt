-- Whether a record may follow a run.
use Rattle.std.proofs.Common.{◌≡◌, ℕ, zero, suc, ◌+◌, ◌-◌, ◌/◌, ◌<◌, ◌≤◌, true, false, cond, ◌⊎◌, List, [], ◌∷◌, ◌++◌, length, get_or, Some, None, sym, refl, ap, ◌∙◌, subst, inl, inr, arith, length-append}
use Rattle.std.proofs.lemmas.Bool.{cases_lt, cases_eq, false_from_ne_true}
use Rattle.std.proofs.Math.ListN.{get_or-eq_default}
use Rattle.std.proofs.ByRecursion.{All-from_get_or, All-get_or}
use Rattle.records.specs.Content.{Mutation}
use Rattle.layout.specs.Pieces.{mutation_at}
use Rattle.canon.specs.Run.{all, ascends, apart, is_run, IsRun}
use Rattle.canon.specs.Check.{Passed}
use Rattle.canon.proofs.Pairs.{Ascends, Before, Proper, ascends-says, ascends_holds, apart-says, apart_holds, all-says, all_holds, run_says, range_proper}
use Rattle.canon.proofs.Checks.{InOrder, ascends_trans, passed_on, one_more, from_run}
use Rattle.runs.specs.declared.fault.RunFault.TheVariants.{Order}
use Rattle.runs.specs.declared.fault.Disorder.TheVariants.{Unsorted}
use Rattle.runs.specs.Records.{records_in}
use Rattle.runs.specs.Faults.{clash_of, disorder, order_fault}
use Rattle.runs.specs.RunBytes.{RunBytes}
use Rattle.runs.specs.Check.{PassedTo}
use Rattle.runs.proofs.Pieces.{lawful_range, records_long, records_at, run_in_order, in_order_run, records_order}

-- ---- a list with one more behind it

grown : (xs : List Mutation) (m : Mutation) (k : ℕ) → get_or (xs ++ m ∷ []) k m ≡ get_or xs k m
grown [] m zero = refl
grown [] m (suc k) = refl
grown (x ∷ xs) m zero = refl
grown (x ∷ xs) m (suc k) = grown xs m k

module _ (xs : List Mutation) (m : Mutation) where
  long : length (xs ++ m ∷ []) ≡ length xs + 1
  long = length-append xs (m ∷ [])

  order_grown : IsRun (xs ++ m ∷ []) → InOrder (λ k. get_or xs k m) (length xs + 1)
  order_grown = run_in_order (λ k. get_or xs k m) (xs ++ m ∷ []) m long (λ k l. grown xs m k)

  grown_order : InOrder (λ k. get_or xs k m) (length xs + 1) → IsRun (xs ++ m ∷ [])
  grown_order = in_order_run (λ k. get_or xs k m) (xs ++ m ∷ []) m long (λ k l. grown xs m k)

  -- no run with it: what it is that a record may not do
  not_grown : (k : ℕ) → k < length xs → (Before (get_or xs k m) m → ⊥) → is_run (xs ++ m ∷ []) ≡ false
  not_grown k l n =
      false_from_ne_true (is_run (xs ++ m ∷ []))
      (λ e. n (subst (Before (get_or xs k m)) (get_or-eq_default xs m (omega arith)) (order_grown e k (length xs) l (omega arith))))

-- ---- a run in bytes, its last record x, and the record m

module _ {bs : List ℕ} (e : RunBytes bs) (m : Mutation) {x : Mutation} (last : x ≡ mutation_at bs (length bs / 48 - 1)) where
  at : (k : ℕ) → k < length bs / 48 → get_or (records_in bs) k m ≡ mutation_at bs k
  at k l = records_at bs (length bs / 48) k m l

  -- where the last ascends to it, all do
  up_to_last : Ascends x m → (k : ℕ) → k < length bs / 48 → Ascends (mutation_at bs k) m
  up_to_last h k l = go (cases_eq k (length bs / 48 - 1))
    where
      before : k < length bs / 48 - 1 → Ascends (mutation_at bs k) x
      before i = subst (Ascends (mutation_at bs k)) (sym last) (records_order bs (length bs / 48) e.run k (length bs / 48 - 1) i (omega arith)).0

      go : (k ≡ length bs / 48 - 1) ⊎ (k ≡ length bs / 48 - 1 → ⊥) → Ascends (mutation_at bs k) m
      go (inl i) = subst (λ y. Ascends y m) (last ∙ ap (mutation_at bs) (sym i)) h
      go (inr i) = ascends_trans (mutation_at bs k) x m (before (omega arith)) h

  -- what can cover nothing behind the last can't cover it
  pub passed_all : {from to : ℕ} → PassedTo bs from (mutation_at bs (length bs / 48 - 1)) → to ≤ length bs / 48 → ((k : ℕ) → from ≤ k → k < to → Passed (mutation_at bs k) m) → (0 < length bs / 48 → Ascends x m) → PassedTo bs to m
  passed_all {from = from} {to = to} old within new up = record { within = within; each = λ k l. go k l (cases_lt k from) }
    where
      go : (k : ℕ) → k < to → (k < from) ⊎ (from ≤ k) → Passed (mutation_at bs k) m
      go k l (inl a) = passed_on (mutation_at bs k) x m (subst (Passed (mutation_at bs k)) (sym last) (old.each k a)) (up (omega arith))
      go k l (inr a) = new k a l

  -- the records, and m behind them
  abbrev R : ℕ → Mutation
  R k = get_or (records_in bs) k m

  len : length (records_in bs) ≡ length bs / 48
  len = records_long bs (length bs / 48)

  end : R (length bs / 48) ≡ m
  end = get_or-eq_default (records_in bs) m (omega (arith, len))

  along : (P : Mutation → Mutation → Type 0) (k : ℕ) → k < length bs / 48 → P (mutation_at bs k) m → P (R k) (R (length bs / 48))
  along P k l h = subst (P (R k)) (sym end) (subst (λ y. P y m) (sym (at k l)) h)

  -- the last, and the first that is not passed, leave it its place
  pub may_follow : {to : ℕ} → PassedTo bs to m → (to < length bs / 48 → Passed (mutation_at bs to) m → ⊥) → (0 < length bs / 48 → (ascends x m ≡ true) × (apart x m ≡ true)) → (to < length bs / 48 → apart (mutation_at bs to) m ≡ true) → order_fault (records_in bs) m ≡ None
  may_follow {to = to} behind stops tests first = ap (λ b. cond b None (Some (Order (length (records_in bs)) (disorder (records_in bs) m)))) (grown_order (records_in bs) m (subst (λ n. InOrder R (n + 1)) (sym len) all))
    where
      up : 0 < length bs / 48 → Before x m
      up l = (ascends-says x m (tests l).0, apart-says x m (tests l).1)

      all : InOrder R (length bs / 48 + 1)
      all = one_more R (length bs / 48) to
          (subst (InOrder R) len (from_run (records_in bs) m (run_says (records_in bs) e.run)))
          (λ k l. subst Proper (sym (at k l)) (range_proper (mutation_at bs k) (lawful_range bs k (e.lawful.each k l))))
          (λ k l. along Passed k (omega (arith, behind.within)) (behind.each k l))
          (λ l p. stops l (subst (Passed (mutation_at bs to)) end (subst (λ y. Passed y (R (length bs / 48))) (at to l) p)))
          (λ l. along Before (length bs / 48 - 1) (omega arith) (subst (λ y. Before y m) last (up l)))
          (λ l. along Before to l (up_to_last (up (omega arith)).0 to l, apart-says (mutation_at bs to) m (first l)))

  none : (k : ℕ) → k < length bs / 48 → (Before (mutation_at bs k) m → ⊥) → is_run (records_in bs ++ m ∷ []) ≡ false
  none k l n = not_grown (records_in bs) m k (omega (arith, len)) (λ h. n (subst (λ y. Before y m) (at k l) h))

  -- the last does not ascend to it
  pub unsorted : 0 < length bs / 48 → ascends x m ≡ false → order_fault (records_in bs) m ≡ Some (Order (length bs / 48) Unsorted)
  unfolding disorder
  unsorted l h =
      let k : length bs / 48 - 1 < length (records_in bs) = omega (arith, len) in
      ap (λ b. cond b None (Some (Order (length (records_in bs)) (disorder (records_in bs) m)))) (none (length bs / 48 - 1) (omega arith) (λ b. cc (ascends_holds x m (subst (λ y. Ascends y m) (sym last) b.0))))
      ∙ (λ n. Some (Order (len n) (cond (not_all k n) (clash_of m) Unsorted)))
    where
      all_up : length bs / 48 - 1 < length (records_in bs) → all (λ y. ascends y m) (records_in bs) ≡ true → ascends x m ≡ true
      all_up k i =
          subst (λ y. ascends y m ≡ true) (at (length bs / 48 - 1) (omega arith) ∙ sym last)
          (All-get_or (λ y. ascends y m ≡ true) (records_in bs) (length bs / 48 - 1) m k (all-says (λ y. ascends y m) (λ y. ascends y m ≡ true) (λ y j. j) (records_in bs) i))

      not_all : length bs / 48 - 1 < length (records_in bs) → all (λ y. ascends y m) (records_in bs) ≡ false
      not_all k = false_from_ne_true (all (λ y. ascends y m) (records_in bs)) (λ i. cc (all_up k i))

  -- it does, but one leaves it no place
  pub clashes : (k : ℕ) → k < length bs / 48 → ascends x m ≡ true → apart (mutation_at bs k) m ≡ false → order_fault (records_in bs) m ≡ Some (Order (length bs / 48) (clash_of m))
  unfolding disorder
  clashes k l h n =
      ap (λ b. cond b None (Some (Order (length (records_in bs)) (disorder (records_in bs) m)))) (none k l (λ b. cc (apart_holds (mutation_at bs k) m b.1)))
      ∙ (λ n. Some (Order (len n) (cond (up n) (clash_of m) Unsorted)))
    where
      up : all (λ y. ascends y m) (records_in bs) ≡ true
      up =
          all_holds (λ y. ascends y m) (λ y. ascends y m ≡ true) (λ y j. j) (records_in bs)
          (All-from_get_or (λ y. ascends y m ≡ true) (records_in bs) m
          (λ j i. let q : j < length bs / 48 = omega (arith, len) in subst (λ y. ascends y m ≡ true) (sym (at j q)) (ascends_holds (mutation_at bs j) m (up_to_last (ascends-says x m h) j q))))
