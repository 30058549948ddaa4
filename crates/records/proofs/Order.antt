-- What the derived orders say: values go by their bytes, states by rank, day and value, tombstones by stamp and day,
-- places by section, plot and field.
use Rattle.std.proofs.Common.{◌≡◌, ◌&&◌, ℕ, zero, suc, ◌≤◌, true, List, [], ◌∷◌, length, take, drop, nat_cmp, is_le, Ordering, Less, Equal, Greater, sym, refl, ap, ◌∙◌, arith}
use Rattle.std.proofs.lemmas.Bool.Decides.{nat_tests}
use Rattle.std.proofs.lemmas.Cmp.{same_from_slice_cmp}
use Rattle.std.specs.Ordering.{ordering_then}
use Rattle.std.specs.Cmp.Lexicographic.{slice_cmp}
use Rattle.records.specs.Zeros.{all_zero}
use Rattle.records.specs.declared.value.Value.{Value}
use Rattle.records.specs.declared.place.Place.{Place}
use Rattle.records.specs.declared.tombstone.Tombstone.{Tombstone}
use Rattle.records.specs.declared.state.State.{State}
use Rattle.records.specs.declared.state.State.TheVariants.{Live, Cleared}
use Rattle.records.specs.contracts.value.ValueOrd.TheImpl as value_ord
use Rattle.records.specs.contracts.state.StateOrd.TheImpl as state_ord
use Rattle.records.specs.contracts.tombstone.TombstoneOrd.TheImpl as tombstone_ord
use Rattle.records.specs.contracts.place.PlaceOrd.TheImpl as place_ord
use Rattle.records.specs.States.{bytes_of, rank_of, day_of, value_of}
use Rattle.records.specs.Order.{upto}
use Rattle.records.specs.Ranges.{within}

-- zeros come before all else of their length
zeros_first : (xs ys : List ℕ) → length xs ≡ length ys → all_zero xs ≡ true → ordering_then (slice_cmp nat_cmp xs ys) Less ≡ Less
zeros_first [] [] l z = refl
zeros_first [] (y ∷ ys) l z = absurd (omega (arith, l))
zeros_first (x ∷ xs) [] l z = absurd (omega (arith, l))
zeros_first (x ∷ xs) (y ∷ ys) l z =
    let e : x ≡ 0 = grind (arith, nat_tests) in
    let r : all_zero xs ≡ true = grind (arith, nat_tests) in
    let ih = zeros_first xs ys (omega (arith, l)) r in
    grind (arith, nat_tests)

zeros_last : (xs ys : List ℕ) → length xs ≡ length ys → all_zero ys ≡ true → ordering_then (slice_cmp nat_cmp xs ys) Greater ≡ Greater
zeros_last [] [] l z = refl
zeros_last [] (y ∷ ys) l z = absurd (omega (arith, l))
zeros_last (x ∷ xs) [] l z = absurd (omega (arith, l))
zeros_last (x ∷ xs) (y ∷ ys) l z =
    let e : y ≡ 0 = grind (arith, nat_tests) in
    let r : all_zero ys ≡ true = grind (arith, nat_tests) in
    let ih = zeros_last xs ys (omega (arith, l)) r in
    grind (arith, nat_tests)

zeros_alike : (xs ys : List ℕ) → length xs ≡ length ys → all_zero xs ≡ true → all_zero ys ≡ true → slice_cmp nat_cmp xs ys ≡ Equal
zeros_alike [] [] l z w = refl
zeros_alike [] (y ∷ ys) l z w = absurd (omega (arith, l))
zeros_alike (x ∷ xs) [] l z w = absurd (omega (arith, l))
zeros_alike (x ∷ xs) (y ∷ ys) l z w =
    let d : x ≡ 0 = grind (arith, nat_tests) in
    let e : y ≡ 0 = grind (arith, nat_tests) in
    let ih = zeros_alike xs ys (omega (arith, l)) (grind (arith, nat_tests)) (grind (arith, nat_tests)) in
    grind (arith, nat_tests)

-- lists of one length that are zeros behind the first m and k
padded_order : (xs ys : List ℕ) (m k : ℕ) → length xs ≡ length ys → m ≤ length xs → k ≤ length ys → all_zero (drop m xs) ≡ true → all_zero (drop k ys) ≡ true →
    ordering_then (slice_cmp nat_cmp xs ys) (nat_cmp m k) ≡ slice_cmp nat_cmp (take m xs) (take k ys)
padded_order [] [] zero zero l a b z w = refl
padded_order [] [] (suc m) k l a b z w = absurd (omega (arith, a))
padded_order [] [] zero (suc k) l a b z w = absurd (omega (arith, b))
padded_order [] (y ∷ ys) m k l a b z w = absurd (omega (arith, l))
padded_order (x ∷ xs) [] m k l a b z w = absurd (omega (arith, l))
padded_order (x ∷ xs) (y ∷ ys) zero zero l a b z w = rw (zeros_alike (x ∷ xs) (y ∷ ys) l z w) refl
padded_order (x ∷ xs) (y ∷ ys) zero (suc k) l a b z w =
    let e : nat_cmp 0 (suc k) ≡ Less = grind (arith, nat_tests) in
    ap (ordering_then (slice_cmp nat_cmp (x ∷ xs) (y ∷ ys))) e ∙ zeros_first (x ∷ xs) (y ∷ ys) l z
padded_order (x ∷ xs) (y ∷ ys) (suc m) zero l a b z w =
    let e : nat_cmp (suc m) 0 ≡ Greater = grind (arith, nat_tests) in
    ap (ordering_then (slice_cmp nat_cmp (x ∷ xs) (y ∷ ys))) e ∙ zeros_last (x ∷ xs) (y ∷ ys) l w
padded_order (x ∷ xs) (y ∷ ys) (suc m) (suc k) l a b z w =
    let ih = padded_order xs ys m k (omega (arith, l)) (omega (arith, a)) (omega (arith, b)) z w in
    grind (arith, nat_tests)

-- The order of values compares their bytes with the zeros behind them and then their lengths: it is that of their bytes.
pub value_order : (v w : Value) → (value_ord.ghosts).cmp v w ≡ slice_cmp nat_cmp (bytes_of v) (bytes_of w)
value_order v w = padded_order v.bytes w.bytes v.len w.len (v.whole ∙ sym w.whole) (omega (arith, v.short, v.whole)) (omega (arith, w.short, w.whole)) v.padded w.padded

bytes_order : (xs ys : List ℕ) (o : Ordering) → o ≡ slice_cmp nat_cmp xs ys → is_le o ≡ upto xs ys
bytes_order = same_from_slice_cmp nat_cmp is_le upto refl (λ _ _. refl) (λ _ _. refl) (λ x y xs ys o h. grind (arith, nat_tests))

pub state_order : (s t : State) → is_le ((state_ord.ghosts).cmp s t) ≡ upto (rank_of s ∷ day_of s ∷ value_of s) (rank_of t ∷ day_of t ∷ value_of t)
state_order (Live v) (Live w) = bytes_order (bytes_of v) (bytes_of w) ((value_ord.ghosts).cmp v w) (value_order v w)
state_order (Live v) (Cleared y) = refl
state_order (Cleared x) (Live w) = refl
state_order (Cleared x) (Cleared y) = grind (arith, nat_tests)

pub tombstone_order : (a b : Tombstone) → is_le ((tombstone_ord.ghosts).cmp a b) ≡ upto (a.stamp ∷ a.day ∷ []) (b.stamp ∷ b.day ∷ [])
tombstone_order a b = grind (arith, nat_tests)

pub place_order : (a b : Place) → is_le ((place_ord.ghosts).cmp a b) ≡ upto (a.plot.section ∷ a.plot.number ∷ a.field ∷ []) (b.plot.section ∷ b.plot.number ∷ b.field ∷ [])
place_order a b = grind (arith, nat_tests)

-- what `within` tells of numbers
pub ranges : (low x high : ℕ) → (is_le (nat_cmp low x) && is_le (nat_cmp x high)) ≡ within low x high
ranges low x high = grind (arith, nat_tests)
