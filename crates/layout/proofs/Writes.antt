-- One write after another into a row's bytes.
use Rattle.std.proofs.Common.{◌≡◌, ℕ, ◌+◌, ◌/◌, ◌%◌, ◌<◌, List, [], ◌∷◌, ◌++◌, length, take, ap, ◌∙◌, arith}
use Rattle.std.specs.Int.{Width, w8, w16, w32, w64, w128, byte_len, to_be_bytes}
use Rattle.std.specs.List.{splice}
use Rattle.std.proofs.lemmas.List.{append-nil, drop_all}
use Rattle.layout.specs.Numbers.{digits}

-- a part is written at a place
pub written : {b c d part : List ℕ} (at : ℕ) (new : List ℕ) → c ≡ splice b at (at + length part) part → part ≡ new → b ≡ d → c ≡ splice d at (at + length new) new
written at new w p e = w ∙ (λ i. splice (e i) at (at + length (p i)) (p i))

-- the last part, n bytes long, fills the bytes
pub written_last : {b c d : List ℕ} (part : List ℕ) (at n : ℕ) → c ≡ splice b at (at + length part) part → length part ≡ n → b ≡ d → length d ≡ at + n → c ≡ take at d ++ part
written_last {b} {c} {d} part at n w h e l =
    w ∙ ap (λ x. splice x at (at + length part) part) e ∙ rw (drop_all (at + length part) d (omega arith), append-nil)

pub byte_is : (n : ℕ) → n < 256 → n ∷ [] ≡ digits 1 n
byte_is n h = ap (λ d. d ∷ []) (omega arith)

-- the lowest digit
pub lowest : (n : ℕ) → n % 256 ≡ n / 1 % 256
lowest n = omega arith

-- what the code writes of a number
pub be_is : (w : Width) (n : ℕ) → to_be_bytes w n ≡ digits (byte_len w) n
be_is w8 n = rw (lowest n)
be_is w16 n = rw (lowest n)
be_is w32 n = rw (lowest n)
be_is w64 n = rw (lowest n)
be_is w128 n = rw (lowest n)
