-- Numbers as bytes: there and back.
use Rattle.std.proofs.Common.{◌≡◌, ℕ, zero, suc, ◌+◌, ◌-◌, ◌*◌, ◌/◌, ◌%◌, ◌^◌, ◌<◌, ◌≤◌, List, [], ◌∷◌, length, take, drop, sym, refl, ap, ◌∙◌, get_or-take, get_or-drop, zero-add, arith}
use Rattle.std.specs.Int.{Width, w8, w16, w32, w64, w128, byte_len, from_be_bytes}
use Rattle.std.specs.List.{slice_range, All}
use Rattle.std.proofs.lemmas.List.{drop_more, length-take, length-drop}
use Rattle.std.proofs.lemmas.List.Elements.{All-head, All-tail}
use Rattle.std.proofs.lemmas.Nat.{pow-add, mod-pow-add, mod_low, shr_high, field_of, mul-add-lt}
use Rattle.layout.specs.Numbers.{digits, number_at}

-- the number that bytes write, the highest first
abbrev pub be : List ℕ → ℕ
be [] = 0
be (b ∷ bs) = b * 2 ^ (8 * length bs) + be bs

pub length_digits : (w n : ℕ) → length (digits w n) ≡ w
length_digits zero n = refl
length_digits (suc w) n = ap suc (length_digits w n)

eight : (w : ℕ) → 8 * suc w ≡ 8 + 8 * w
eight w = omega arith

pub be_digits : (w n : ℕ) → be (digits w n) ≡ n % 2 ^ (8 * w)
be_digits zero n = omega arith
be_digits (suc w) n =
    rw (length_digits w n, be_digits w n, eight w) (sym (mod-pow-add n 8 (8 * w)))

pub be_lt : (bs : List ℕ) → All (λ b. b < 256) bs → be bs < 2 ^ (8 * length bs)
be_lt [] u = omega arith
be_lt (b ∷ bs) u =
    let t = mul-add-lt b (2 ^ (8 * length bs)) (be bs) 256 (All-head (λ x. x < 256) b bs u) (be_lt bs (All-tail (λ x. x < 256) b bs u)) in
    rw (eight (length bs), pow-add 2 8 (8 * length bs)) (omega arith)

mod_twice : (m j : ℕ) → m % 2 ^ (j + 8) % 256 ≡ m % 256
mod_twice m j = rw (mod-pow-add m j 8) (mod_low (m / 256 % 2 ^ j) 8 (m % 256) (omega arith))

-- the lower bytes do not see what lies above them
pub digits_mod : (w j n : ℕ) → digits w (n % 2 ^ (j + 8 * w)) ≡ digits w n
digits_mod zero j n = refl
digits_mod (suc w) j n =
    let e : j + 8 * suc w ≡ (j + 8) + 8 * w = omega arith in
    rw (e, field_of n (j + 8) (8 * w), mod_twice (n / 2 ^ (8 * w)) j, digits_mod w (j + 8) n)

pub digits_be : (bs : List ℕ) → All (λ b. b < 256) bs → digits (length bs) (be bs) ≡ bs
digits_be [] u = refl
digits_be (b ∷ bs) u =
    let k = 8 * length bs in
    let rest = All-tail (λ x. x < 256) b bs u in
    let lt = be_lt bs rest in
    let hi : (b * 2 ^ k + be bs) / 2 ^ k % 256 ≡ b = rw (shr_high b k (be bs) lt) (omega (arith, All-head (λ x. x < 256) b bs u)) in
    let lo : digits (length bs) (b * 2 ^ k + be bs) ≡ bs =
    sym (digits_mod (length bs) 0 (b * 2 ^ k + be bs)) ∙ rw (zero-add k, mod_low b k (be bs) lt) (digits_be bs rest) in
    rw (hi, lo)

pub number_is : (w at : ℕ) (bs : List ℕ) → at + w ≤ length bs → number_at at w bs ≡ be (take w (drop at bs))
number_is zero at bs h = refl
number_is (suc w) at bs h =
    let n : length (take w (drop (at + 1) bs)) ≡ w = simp (length-take, length-drop) (omega arith) in
    rw (drop_more bs at 0 (omega arith), number_is w (at + 1) bs (omega arith)) (rw n)

-- ---- numbers as the code reads them

part_number : (w i n at : ℕ) (bs : List ℕ) → i + w ≤ n → number_at i w (take n (drop at bs)) ≡ number_at (at + i) w bs
part_number zero i n at bs h = refl
part_number (suc w) i n at bs h =
    let lt : i < n = omega arith in
    let e : at + i + 1 ≡ at + (i + 1) = omega arith in
    rw (get_or-take, get_or-drop, e, part_number w (i + 1) n at bs (omega arith))

from_be_is : (w : Width) (part : List ℕ) → from_be_bytes w part ≡ number_at 0 (byte_len w) part
from_be_is w8 part = omega arith
from_be_is w16 part = omega arith
from_be_is w32 part = omega arith
from_be_is w64 part = omega arith
from_be_is w128 part = omega arith

-- the number that stands at a place
pub number_in : (w : Width) (at : ℕ) (bs part : List ℕ) (n : ℕ) → n ≡ from_be_bytes w part → part ≡ slice_range bs at (at + byte_len w) → n ≡ number_at at (byte_len w) bs
number_in w at bs part n e p =
    let k : at + byte_len w - at ≡ byte_len w = omega arith in
    let z : at + 0 ≡ at = omega arith in
    e
    ∙ from_be_is w part
    ∙ ap (number_at 0 (byte_len w)) (p ∙ ap (λ m. take m (drop at bs)) k)
    ∙ part_number (byte_len w) 0 (byte_len w) at bs (omega arith)
    ∙ ap (λ m. number_at m (byte_len w) bs) z
