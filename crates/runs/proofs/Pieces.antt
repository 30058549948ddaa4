-- The records in bytes, one by one.
use Rattle.std.proofs.Common.{◌≡◌, ℕ, zero, suc, ◌+◌, ◌-◌, ◌*◌, ◌/◌, ◌<◌, ◌≤◌, true, List, [], ◌∷◌, ◌++◌, length, get_or, take, drop, None, sym, refl, ap, ◌∙◌, subst, arith}
use Rattle.std.proofs.lemmas.List.FromFn.{length-map-range_with_len, get_or-map-range_with_len, map-range_with_len_more}
use Rattle.std.proofs.lemmas.List.{drop-drop, drop-take, take-take, take_all, length-take-le}
use Rattle.std.specs.Simd.{first_chunks}
use Rattle.records.specs.Content.{Mutation}
use Rattle.records.specs.Ranges.{in_range}
use Rattle.layout.specs.Layout.{row_at, fault_of, mutation_in}
use Rattle.layout.specs.Pieces.{piece, mutation_at}
use Rattle.layout.proofs.Trips.{faultless_range}
use Rattle.canon.specs.Run.{IsRun}
use Rattle.canon.proofs.Pairs.{Pairs, run_says, run_holds}
use Rattle.canon.proofs.Checks.{InOrder, Reads, run_from_order, order_from_run}
use Rattle.runs.specs.Records.{records_to, records_in}

-- ---- the 48 bytes

-- cut off one after the other
pub piece_in : (bs : List ℕ) (n k : ℕ) (d : List ℕ) → k < n → get_or (first_chunks 48 n bs) k d ≡ piece bs k
unfolding piece
piece_in bs zero k d h = absurd (omega arith)
piece_in bs (suc n) zero d h = refl
piece_in bs (suc n) (suc k) d h =
    let e : 48 + 48 * k ≡ 48 * suc k = omega arith in
    piece_in (drop 48 bs) n k d (omega arith) ∙ ap (take 48) (drop-drop (48 * k) 48 bs) ∙ ap (λ j. take 48 (drop j bs)) e

pub mutation_is : (bs : List ℕ) (i : ℕ) (part : List ℕ) → part ≡ piece bs i → mutation_in (row_at part) ≡ mutation_at bs i
unfolding mutation_at
mutation_is bs i part e = ap (λ b. mutation_in (row_at b)) e

-- ---- ranges

-- a record without a fault is in range
pub lawful_range : (bs : List ℕ) (i : ℕ) → fault_of (piece bs i) ≡ None → in_range (mutation_at bs i) ≡ true
unfolding mutation_at
lawful_range bs i e = faultless_range (piece bs i) e

-- ---- the list of them

pub records_none : (bs : List ℕ) → records_to bs 0 ≡ []
unfolding records_to
records_none bs = refl

pub records_more : (bs : List ℕ) (n : ℕ) → records_to bs (n + 1) ≡ records_to bs n ++ mutation_at bs n ∷ []
unfolding records_to
records_more bs n = map-range_with_len_more (mutation_at bs) 0 n n (omega arith)

pub records_long : (bs : List ℕ) (n : ℕ) → length (records_to bs n) ≡ n
unfolding records_to
records_long bs n = length-map-range_with_len (mutation_at bs) 0 n

pub records_at : (bs : List ℕ) (n k : ℕ) (d : Mutation) → k < n → get_or (records_to bs n) k d ≡ mutation_at bs k
unfolding records_to
records_at bs n k d h = get_or-map-range_with_len (mutation_at bs) 0 n k k d h (omega arith)

-- ---- their order

-- a list whose k-th record is R k
module _ (R : ℕ → Mutation) (xs : List Mutation) (d : Mutation) {n : ℕ} (long : length xs ≡ n) (each : (k : ℕ) → k < n → get_or xs k d ≡ R k) where
  reads : Reads R xs d n
  reads = (omega (arith, long), each)

  all_of_them : take n xs ≡ xs
  all_of_them = take_all n xs (omega (arith, long))

  pub run_in_order : IsRun xs → InOrder R n
  run_in_order h = order_from_run R xs d n reads (subst Pairs (sym all_of_them) (run_says xs h))

  pub in_order_run : InOrder R n → IsRun xs
  in_order_run o = run_holds xs (subst Pairs all_of_them (run_from_order R xs d n reads o))

pub records_order : (bs : List ℕ) (n : ℕ) → IsRun (records_to bs n) → InOrder (mutation_at bs) n
records_order bs n = run_in_order (mutation_at bs) (records_to bs n) (mutation_at bs 0) (records_long bs n) (λ k l. records_at bs n k (mutation_at bs 0) l)

-- ---- the bytes of the first n records

module _ (bs : List ℕ) (n : ℕ) (within : n ≤ length bs / 48) where
  pub before_long : length (take (48 * n) bs) ≡ 48 * n
  before_long = length-take-le (48 * n) bs (omega arith)

  pub piece_before : (k : ℕ) → k < n → piece (take (48 * n) bs) k ≡ piece bs k
  unfolding piece
  piece_before k h =
      let e : 48 * n ≡ 48 * k + (48 * n - 48 * k) = omega arith in
      ap (λ j. take 48 (drop (48 * k) (take j bs))) e
      ∙ ap (take 48) (drop-take (48 * k) (48 * n - 48 * k) bs)
      ∙ take-take 48 (48 * n - 48 * k) (drop (48 * k) bs) (omega arith)

  pub mutation_before : (k : ℕ) → k < n → mutation_at (take (48 * n) bs) k ≡ mutation_at bs k
  unfolding mutation_at
  mutation_before k h = ap (λ b. mutation_in (row_at b)) (piece_before k h)

  first_before : (k : ℕ) → k ≤ n → records_to (take (48 * n) bs) k ≡ records_to bs k
  first_before zero h = records_none (take (48 * n) bs) ∙ sym (records_none bs)
  first_before (suc k) h =
      let e : suc k ≡ k + 1 = omega arith in
      ap (records_to (take (48 * n) bs)) e
      ∙ records_more (take (48 * n) bs) k
      ∙ (λ i. first_before k (omega arith) i ++ mutation_before k (omega arith) i ∷ [])
      ∙ sym (records_more bs k)
      ∙ ap (records_to bs) (sym e)

  pub records_before : records_in (take (48 * n) bs) ≡ records_to bs n
  records_before = let e : length (take (48 * n) bs) / 48 ≡ n = omega (arith, before_long) in ap (records_to (take (48 * n) bs)) e ∙ first_before n (omega arith)
