-- The order of keys: lists of numbers, compared from the front, a proper prefix being smaller.
use Rattle.std.specs.Prelude.{ℕ, Bool, true, false, cond, List, [], ◌∷◌, Some, None, Option, ◌==◌, nat_lt}

abbrev pub upto : List ℕ → List ℕ → Bool
upto [] ys = true
upto (x ∷ xs) [] = false
upto (x ∷ xs) (y ∷ ys) = cond (x == y) (upto xs ys) (nat_lt x y)

-- the one with the greater key, the second of two with the same; none is below all
abbrev pub greatest : {A : Type 0} → (A → List ℕ) → Option A → Option A → Option A
greatest key None b = b
greatest key (Some x) None = Some x
greatest key (Some x) (Some y) = cond (upto (key x) (key y)) (Some y) (Some x)
