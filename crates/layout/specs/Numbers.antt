-- Numbers as bytes, the highest first.
use Rattle.std.specs.Prelude.{ℕ, zero, suc, ◌+◌, ◌*◌, ◌/◌, ◌%◌, ◌^◌, List, [], ◌∷◌, ◌++◌, slice_index}

-- a number as w bytes
abbrev pub digits : ℕ → ℕ → List ℕ
digits zero n = []
digits (suc w) n = n / 2 ^ (8 * w) % 256 ∷ digits w n

-- the number in the w bytes from `at` on
abbrev pub number_at : ℕ → ℕ → List ℕ → ℕ
number_at at zero bs = 0
number_at at (suc w) bs = slice_index bs at * 2 ^ (8 * w) + number_at (at + 1) w bs

-- numbers of these widths, one behind the other
abbrev pub laid : List ℕ → List ℕ → List ℕ
laid [] xs = []
laid (w ∷ ws) [] = []
laid (w ∷ ws) (x ∷ xs) = digits w x ++ laid ws xs
