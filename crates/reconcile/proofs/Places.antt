-- The laws of covers and cells at one place.
use Rattle.std.proofs.Common.{◌≡◌, ℕ, ◌+◌, ◌<◌, ◌≤◌, max, ◌⊎◌, List, [], ◌∷◌, Some, None, Option, sym, refl, ap, ◌∙◌, inl, inr, arith}
use Rattle.std.proofs.lemmas.Bool.{le-leb, lt-leb, cases_lt}
use Rattle.records.specs.declared.tombstone.Tombstone.{Tombstone}
use Rattle.records.specs.Content.{Version, tombstone_key, version_key, later, greater, uncovered}
use Rattle.reconcile.proofs.Orders.{upto_head, upto_below, greatest_none, greatest_same, greatest_cases, greatest_comm, greatest_assoc, greatest_down, greatest_either, GreatestIs}
use Rattle.reconcile.specs.Laws.{MaximumLaws}

head : List ℕ → ℕ
head [] = 0
head (x ∷ xs) = x

tail : List ℕ → List ℕ
tail [] = []
tail (x ∷ xs) = xs

pub tombstone_key_injective : (x y : Tombstone) → tombstone_key x ≡ tombstone_key y → x ≡ y
unfolding head tail tombstone_key
tombstone_key_injective x y e = λ i. record { stamp = head (e i); day = head (tail (e i)) }

pub version_key_injective : (x y : Version) → version_key x ≡ version_key y → x ≡ y
unfolding head tail version_key
version_key_injective x y e = λ i. record { stamp = head (e i); rank = head (tail (e i)); day = head (tail (tail (e i))); value = tail (tail (tail (e i))) }

pub later_none : (a : Option Tombstone) → later a None ≡ a
later_none = greatest_none tombstone_key

pub later_same : (a : Option Tombstone) → later a a ≡ a
later_same = greatest_same tombstone_key

pub later_comm : (a b : Option Tombstone) → later a b ≡ later b a
later_comm = greatest_comm tombstone_key tombstone_key_injective

pub later_assoc : (a b c : Option Tombstone) → later (later a b) c ≡ later a (later b c)
later_assoc = greatest_assoc tombstone_key tombstone_key_injective

pub greater_none : (x : Option Version) → greater x None ≡ x
greater_none = greatest_none version_key

pub greater_same : (x : Option Version) → greater x x ≡ x
greater_same = greatest_same version_key

pub greater_comm : (x y : Option Version) → greater x y ≡ greater y x
greater_comm = greatest_comm version_key version_key_injective

pub greater_assoc : (x y z : Option Version) → greater (greater x y) z ≡ greater x (greater y z)
greater_assoc = greatest_assoc version_key version_key_injective

-- ---- which of two is taken, and the stamps

abbrev pub LaterIs : Tombstone → Tombstone → Type 0
LaterIs a b = ((later (Some a) (Some b) ≡ Some b) × (a.stamp ≤ b.stamp)) ⊎ ((later (Some a) (Some b) ≡ Some a) × (b.stamp ≤ a.stamp))

pub later_is : (a b : Tombstone) → LaterIs a b
unfolding tombstone_key
later_is a b = go (greatest_cases tombstone_key a b)
  where
    go : GreatestIs tombstone_key a b → LaterIs a b
    go (inl h) = inl (h.0, upto_head a.stamp b.stamp (a.day ∷ []) (b.day ∷ []) h.1)
    go (inr h) = inr (h.0, upto_head b.stamp a.stamp (b.day ∷ []) (a.day ∷ []) h.1)

abbrev pub GreaterIs : Version → Version → Type 0
GreaterIs c d = ((greater (Some c) (Some d) ≡ Some d) × (c.stamp ≤ d.stamp)) ⊎ ((greater (Some c) (Some d) ≡ Some c) × (d.stamp ≤ c.stamp))

pub greater_is : (c d : Version) → GreaterIs c d
unfolding version_key
greater_is c d = go (greatest_cases version_key c d)
  where
    go : GreatestIs version_key c d → GreaterIs c d
    go (inl h) = inl (h.0, upto_head c.stamp d.stamp (c.rank ∷ c.day ∷ c.value) (d.rank ∷ d.day ∷ d.value) h.1)
    go (inr h) = inr (h.0, upto_head d.stamp c.stamp (d.rank ∷ d.day ∷ d.value) (c.rank ∷ c.day ∷ c.value) h.1)

-- a greater stamp wins
pub later_above : (a b : Tombstone) → b.stamp < a.stamp → later (Some a) (Some b) ≡ Some a
unfolding tombstone_key
later_above a b h = greatest_down tombstone_key a b (upto_below a.stamp b.stamp (a.day ∷ []) (b.day ∷ []) h)

pub greater_above : (c d : Version) → d.stamp < c.stamp → greater (Some c) (Some d) ≡ Some c
unfolding version_key
greater_above c d h = greatest_down version_key c d (upto_below c.stamp d.stamp (c.rank ∷ c.day ∷ c.value) (d.rank ∷ d.day ∷ d.value) h)

-- the least stamp that a cover lets through
abbrev pub floor : Option Tombstone → ℕ
floor None = 0
floor (Some t) = t.stamp + 1

pub floor_later : (a b : Option Tombstone) → floor (later a b) ≡ max (floor a) (floor b)
floor_later None b = omega arith
floor_later (Some a) None = omega arith
floor_later (Some a) (Some b) = go (later_is a b)
  where
    go : LaterIs a b → floor (later (Some a) (Some b)) ≡ max (floor (Some a)) (floor (Some b))
    go (inl h) = let k : a.stamp ≤ b.stamp = h.1 in ap floor h.0 ∙ (omega arith)
    go (inr h) = let k : b.stamp ≤ a.stamp = h.1 in ap floor h.0 ∙ (omega arith)

-- ---- what a cover lets through

pub let_through : (t : Option Tombstone) (c : Version) → floor t ≤ c.stamp → uncovered t (Some c) ≡ Some c
let_through None c h = refl
let_through (Some t) c h = rw (lt-leb c.stamp t.stamp (omega arith)) refl

pub held_back : (t : Option Tombstone) (c : Version) → c.stamp < floor t → uncovered t (Some c) ≡ None
held_back None c h = absurd (omega arith)
held_back (Some t) c h = rw (le-leb c.stamp t.stamp (omega arith)) refl

-- either way
pub gate : (t : Option Tombstone) (c : Version) → (floor t ≤ c.stamp) ⊎ (c.stamp < floor t)
gate t c = go (cases_lt c.stamp (floor t))
  where
    go : (c.stamp < floor t) ⊎ (floor t ≤ c.stamp) → (floor t ≤ c.stamp) ⊎ (c.stamp < floor t)
    go (inl k) = inr k
    go (inr k) = inl k

pub is_through : (t : Option Tombstone) (c : Version) → uncovered t (Some c) ≡ Some c → floor t ≤ c.stamp
is_through t c h = go (gate t c)
  where
    go : (floor t ≤ c.stamp) ⊎ (c.stamp < floor t) → floor t ≤ c.stamp
    go (inl k) = k
    go (inr k) = let e = held_back t c k in let z : ◌≡◌ {A = ℕ} 0 1 = cc in omega arith

-- a joined cover holds back what either holds back
pub through_later : (a b : Option Tombstone) (x : Option Version) → uncovered (later a b) x ≡ uncovered a (uncovered b x)
through_later a b None = refl
through_later a b (Some c) = go (gate a c) (gate b c)
  where
    go : (floor a ≤ c.stamp) ⊎ (c.stamp < floor a) → (floor b ≤ c.stamp) ⊎ (c.stamp < floor b) → uncovered (later a b) (Some c) ≡ uncovered a (uncovered b (Some c))
    go (inl h) (inl k) = let_through (later a b) c (omega (arith, floor_later a b)) ∙ sym (ap (uncovered a) (let_through b c k) ∙ let_through a c h)
    go (inr h) (inl k) = held_back (later a b) c (omega (arith, floor_later a b)) ∙ sym (ap (uncovered a) (let_through b c k) ∙ held_back a c h)
    go (inl h) (inr k) = held_back (later a b) c (omega (arith, floor_later a b)) ∙ sym (ap (uncovered a) (held_back b c k))
    go (inr h) (inr k) = held_back (later a b) c (omega (arith, floor_later a b)) ∙ sym (ap (uncovered a) (held_back b c k))

-- the greater of two that are let through is let through
pub through_greater : (t : Option Tombstone) (x y : Option Version) → uncovered t x ≡ x → uncovered t y ≡ y → uncovered t (greater x y) ≡ greater x y
through_greater t None y h k = k
through_greater t (Some c) None h k = h
through_greater t (Some c) (Some d) h k = go (greater_is c d)
  where
    go : GreaterIs c d → uncovered t (greater (Some c) (Some d)) ≡ greater (Some c) (Some d)
    go (inl e) = ap (uncovered t) e.0 ∙ k ∙ sym e.0
    go (inr e) = ap (uncovered t) e.0 ∙ h ∙ sym e.0

-- what an earlier cover held back makes no difference under a later one
pub absorb : (a t : Option Tombstone) (x y : Option Version) → floor a ≤ floor t → uncovered t (greater (uncovered a x) y) ≡ uncovered t (greater x y)
absorb a t None y h = refl
absorb a t (Some c) y h = go (gate a c)
  where
    none : (z : Option Version) → c.stamp < floor t → uncovered t z ≡ uncovered t (greater (Some c) z)
    none None k = sym (held_back t c k)
    none (Some d) k = of (greater_is c d)
      where
        of : GreaterIs c d → uncovered t (Some d) ≡ uncovered t (greater (Some c) (Some d))
        of (inl e) = ap (uncovered t) (sym e.0)
        of (inr e) = let l : d.stamp ≤ c.stamp = e.1 in held_back t d (omega arith) ∙ sym (ap (uncovered t) e.0 ∙ held_back t c k)

    go : (floor a ≤ c.stamp) ⊎ (c.stamp < floor a) → uncovered t (greater (uncovered a (Some c)) y) ≡ uncovered t (greater (Some c) y)
    go (inl k) = ap (λ z. uncovered t (greater z y)) (let_through a c k)
    go (inr k) = ap (λ z. uncovered t (greater z y)) (held_back a c k) ∙ none y (omega arith)

pub absorb_right : (a t : Option Tombstone) (x y : Option Version) → floor a ≤ floor t → uncovered t (greater x (uncovered a y)) ≡ uncovered t (greater x y)
absorb_right a t x y h = ap (uncovered t) (greater_comm x (uncovered a y)) ∙ absorb a t y x h ∙ ap (uncovered t) (greater_comm y x)

pub through_twice : (t : Option Tombstone) (x : Option Version) → uncovered t (uncovered t x) ≡ uncovered t x
through_twice t x = sym (through_later t t x) ∙ ap (λ a. uncovered a x) (later_same t)

-- ---- together

pub later_laws : MaximumLaws (λ t. t.stamp) later
later_laws = record { assoc = later_assoc; comm = later_comm; same = later_same; none = later_none; either = greatest_either tombstone_key; newer = later_above }

pub greater_laws : MaximumLaws (λ c. c.stamp) greater
greater_laws = record { assoc = greater_assoc; comm = greater_comm; same = greater_same; none = greater_none; either = greatest_either version_key; newer = greater_above }
