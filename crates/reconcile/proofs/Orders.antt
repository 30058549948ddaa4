-- `upto` is a total order, and `greatest` its maximum.
use Rattle.std.proofs.Common.{◌≡◌, ℕ, ◌<◌, ◌≤◌, Bool, true, false, ◌⊎◌, List, [], ◌∷◌, Some, None, Option, sym, refl, ap, ◌∙◌, inl, inr, arith}
use Rattle.std.proofs.lemmas.Bool.Decides.{nat_tests}
use Rattle.records.specs.Order.{upto, greatest}

pub upto_refl : (xs : List ℕ) → upto xs xs ≡ true
upto_refl [] = refl
upto_refl (x ∷ xs) = let ih = upto_refl xs in grind (arith, nat_tests)

pub upto_total : (xs ys : List ℕ) → upto xs ys ≡ false → upto ys xs ≡ true
upto_total [] ys h = absurd (let z : ◌≡◌ {A = ℕ} 0 1 = cc in omega arith)
upto_total (x ∷ xs) [] h = refl
upto_total (x ∷ xs) (y ∷ ys) h = let ih = upto_total xs ys in grind (arith, nat_tests)

pub upto_trans : (xs ys zs : List ℕ) → upto xs ys ≡ true → upto ys zs ≡ true → upto xs zs ≡ true
upto_trans [] ys zs h g = refl
upto_trans (x ∷ xs) [] zs h g = absurd (let z : ◌≡◌ {A = ℕ} 0 1 = cc in omega arith)
upto_trans (x ∷ xs) (y ∷ ys) [] h g = g
upto_trans (x ∷ xs) (y ∷ ys) (z ∷ zs) h g = let ih = upto_trans xs ys zs in grind (arith, nat_tests)

pub upto_anti : (xs ys : List ℕ) → upto xs ys ≡ true → upto ys xs ≡ true → xs ≡ ys
upto_anti [] [] h g = refl
upto_anti [] (y ∷ ys) h g = absurd (let z : ◌≡◌ {A = ℕ} 0 1 = cc in omega arith)
upto_anti (x ∷ xs) [] h g = absurd (let z : ◌≡◌ {A = ℕ} 0 1 = cc in omega arith)
upto_anti (x ∷ xs) (y ∷ ys) h g = let ih = upto_anti xs ys in grind (arith, nat_tests)

pub upto_falls : (xs ys zs : List ℕ) → upto xs ys ≡ false → upto ys zs ≡ false → upto xs zs ≡ false
upto_falls xs ys zs h g = go (upto xs zs) refl
  where
    go : (b : Bool) → upto xs zs ≡ b → upto xs zs ≡ false
    go true e = e ∙ sym (upto_trans xs zs ys e (upto_total ys zs g)) ∙ h
    go false e = e

-- the order of the heads
pub upto_head : (x y : ℕ) (xs ys : List ℕ) → upto (x ∷ xs) (y ∷ ys) ≡ true → x ≤ y
upto_head x y xs ys h = grind (arith, nat_tests)

pub upto_below : (x y : ℕ) (xs ys : List ℕ) → y < x → upto (x ∷ xs) (y ∷ ys) ≡ false
upto_below x y xs ys h = grind (arith, nat_tests)

pub upto_above : (x y : ℕ) (xs ys : List ℕ) → x < y → upto (x ∷ xs) (y ∷ ys) ≡ true
upto_above x y xs ys h = grind (arith, nat_tests)

module _ {A : Type 0} (key : A → List ℕ) where
  pub greatest_none : (x : Option A) → greatest key x None ≡ x
  greatest_none None = refl
  greatest_none (Some x) = refl

  pub greatest_same : (x : Option A) → greatest key x x ≡ x
  greatest_same None = refl
  greatest_same (Some x) = rw (upto_refl (key x)) refl

  pub greatest_up : (x y : A) → upto (key x) (key y) ≡ true → greatest key (Some x) (Some y) ≡ Some y
  greatest_up x y h = rw h refl

  pub greatest_down : (x y : A) → upto (key x) (key y) ≡ false → greatest key (Some x) (Some y) ≡ Some x
  greatest_down x y h = rw h refl

  -- it is one of the two, and the other is no greater
  abbrev pub GreatestIs : A → A → Type 0
  GreatestIs x y = ((greatest key (Some x) (Some y) ≡ Some y) × (upto (key x) (key y) ≡ true)) ⊎ ((greatest key (Some x) (Some y) ≡ Some x) × (upto (key y) (key x) ≡ true))

  pub greatest_cases : (x y : A) → GreatestIs x y
  greatest_cases x y = go (upto (key x) (key y)) refl
    where
      go : (b : Bool) → upto (key x) (key y) ≡ b → GreatestIs x y
      go true h = inl (greatest_up x y h, h)
      go false h = inr (greatest_down x y h, upto_total (key x) (key y) h)

  pub greatest_either : (x y : Option A) → (greatest key x y ≡ x) ⊎ (greatest key x y ≡ y)
  greatest_either None y = inr refl
  greatest_either (Some x) None = inl refl
  greatest_either (Some x) (Some y) = go (greatest_cases x y)
    where
      go : GreatestIs x y → (greatest key (Some x) (Some y) ≡ Some x) ⊎ (greatest key (Some x) (Some y) ≡ Some y)
      go (inl h) = inr h.0
      go (inr h) = inl h.0

  module _ (injective : (x y : A) → key x ≡ key y → x ≡ y) where
    pub greatest_comm : (x y : Option A) → greatest key x y ≡ greatest key y x
    greatest_comm None None = refl
    greatest_comm None (Some y) = refl
    greatest_comm (Some x) None = refl
    greatest_comm (Some x) (Some y) = go (greatest_cases x y) (greatest_cases y x)
      where
        go : GreatestIs x y → GreatestIs y x → greatest key (Some x) (Some y) ≡ greatest key (Some y) (Some x)
        go (inl a) (inl b) = a.0 ∙ ap Some (sym (injective x y (upto_anti (key x) (key y) a.1 b.1))) ∙ sym b.0
        go (inl a) (inr b) = a.0 ∙ sym b.0
        go (inr a) (inl b) = a.0 ∙ sym b.0
        go (inr a) (inr b) = a.0 ∙ ap Some (injective x y (upto_anti (key x) (key y) b.1 a.1)) ∙ sym b.0

    pub greatest_assoc : (x y z : Option A) → greatest key (greatest key x y) z ≡ greatest key x (greatest key y z)
    greatest_assoc None y z = refl
    greatest_assoc (Some x) None z = refl
    greatest_assoc (Some x) (Some y) None = greatest_none (greatest key (Some x) (Some y))
    greatest_assoc (Some x) (Some y) (Some z) = go (upto (key x) (key y)) (upto (key y) (key z)) refl refl
      where
        go : (b c : Bool) → upto (key x) (key y) ≡ b → upto (key y) (key z) ≡ c → greatest key (greatest key (Some x) (Some y)) (Some z) ≡ greatest key (Some x) (greatest key (Some y) (Some z))
        go true true h g = simp (h, g, upto_trans (key x) (key y) (key z) h g)
        go true false h g = simp (h, g)
        go false true h g = simp (h, g)
        go false false h g = simp (h, g, upto_falls (key x) (key y) (key z) h g)
