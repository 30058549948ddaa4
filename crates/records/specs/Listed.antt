-- Which plots of a content are listed, and which of those are free.
use Rattle.std.specs.Prelude.{ℕ, zero, suc, Bool, cond, not, ◌&&◌, List, [], ◌∷◌, ◌++◌, length, nat_lt}
use Rattle.records.specs.Content.{Content, is_live}

-- the numbers from 1 to n that pass a test, ascending
unfoldable pub passing : (ℕ → Bool) → ℕ → List ℕ
passing test zero = []
passing test (suc n) = passing test n ++ cond (test (suc n)) (suc n ∷ []) []

-- the fields of a plot with a live cell
abbrev pub live_fields : Content → ℕ → ℕ → List ℕ
live_fields c s p = passing (λ f. is_live (c.cell s p f)) 32

-- a plot is listed if it has a live cell in any field
abbrev pub listed : Content → ℕ → ℕ → Bool
listed c s p = nat_lt 0 (length (live_fields c s p))

-- a listed plot is free if it has none in field 1, the occupant
abbrev pub free : Content → ℕ → ℕ → Bool
free c s p = listed c s p && not (is_live (c.cell s p 1))
