-- Lists made place by place.
use Rattle.std.proofs.Common.{◌≡◌, ℕ, zero, suc, ◌+◌, ◌<◌, ◌≤◌, ◌⊎◌, List, [], ◌∷◌, ◌++◌, sym, subst, inl, inr, arith}
use mathlib.Core.List.Memᴰ
use mathlib.Core.List.{Memᴰ}
use Rattle.std.specs.List.{range_with_len, flat_map, AllByRecursion}
use Rattle.std.proofs.ByRecursion.{All-append, All-weaker}
use Rattle.std.proofs.lemmas.Bool.{cases_eq}
use Rattle.records.specs.Content.{Mutation}
use Rattle.canon.proofs.Pairs.{Ascends, Ascending}

pub all_joined : {X : Type 0} (P : X → Type 0) (f : ℕ → List X) (k n : ℕ) → ((j : ℕ) → k ≤ j → j < k + n → AllByRecursion P (f j)) → AllByRecursion P (flat_map f (range_with_len k n))
all_joined P f k zero h = tt
all_joined P f k (suc n) h = All-append P (f k) (flat_map f (range_with_len (k + 1) n)) (h k (omega arith) (omega arith)) (all_joined P f (k + 1) n (λ j a b. h j (omega arith) (omega arith)))

pub member_left : {X : Type 0} {x : X} (xs ys : List X) → Memᴰ x xs → Memᴰ x (xs ++ ys)
member_left [] ys m = elim m [ ]
member_left {x = x} (y ∷ xs) ys m = go (Memᴰ.cases_cons m) (member_left xs ys)
  where
    go : (x ≡ y) ⊎ Memᴰ x xs → (Memᴰ x xs → Memᴰ x (xs ++ ys)) → Memᴰ x (y ∷ xs ++ ys)
    go (inl e) ih = Memᴰ.head e
    go (inr k) ih = Memᴰ.tail (ih k)

pub member_right : {X : Type 0} {x : X} (xs ys : List X) → Memᴰ x ys → Memᴰ x (xs ++ ys)
member_right [] ys m = m
member_right (y ∷ xs) ys m = Memᴰ.tail (member_right xs ys m)

pub member_joined : {X : Type 0} {x : X} (f : ℕ → List X) (k n j : ℕ) → k ≤ j → j < k + n → Memᴰ x (f j) → Memᴰ x (flat_map f (range_with_len k n))
member_joined f k zero j a b m = absurd (omega arith)
member_joined {x = x} f k (suc n) j a b m = go (cases_eq k j) (member_joined f (k + 1) n j)
  where
    go : (k ≡ j) ⊎ (k ≡ j → ⊥) → (k + 1 ≤ j → j < k + 1 + n → Memᴰ x (f j) → Memᴰ x (flat_map f (range_with_len (k + 1) n))) → Memᴰ x (f k ++ flat_map f (range_with_len (k + 1) n))
    go (inl e) ih = member_left (f k) _ (subst (λ i. Memᴰ x (f i)) (sym e) m)
    go (inr e) ih = member_right (f k) _ (ih (grind arith) (omega arith) m)

-- ---- ascending

pub ascending-append : (xs ys : List Mutation) → Ascending xs → Ascending ys → AllByRecursion (λ x. AllByRecursion (Ascends x) ys) xs → Ascending (xs ++ ys)
ascending-append [] ys h k c = k
ascending-append (x ∷ xs) ys h k c = (All-append (Ascends x) xs ys h.0 c.0, ascending-append xs ys h.1 k c.1)

-- At k holds of the records of the k-th place, and those of a later place are greater
pub ascending_joined : (At : ℕ → Mutation → Type 0) → ((j k : ℕ) (x y : Mutation) → j < k → At j x → At k y → Ascends x y) → (f : ℕ → List Mutation) → ((k : ℕ) → AllByRecursion (At k) (f k)) → ((k : ℕ) → Ascending (f k)) → (k n : ℕ) → Ascending (flat_map f (range_with_len k n))
ascending_joined At asc f at h k zero = tt
ascending_joined At asc f at h k (suc n) =
    ascending-append (f k) (flat_map f (range_with_len (k + 1) n)) (h k) (ascending_joined At asc f at h (k + 1) n)
    (All-weaker (At k) (λ x. AllByRecursion (Ascends x) (flat_map f (range_with_len (k + 1) n)))
    (λ x i. all_joined (Ascends x) f (k + 1) n (λ j a b. All-weaker (At j) (Ascends x) (λ y. asc k j x y (omega arith) i) (f j) (at j))) (f k) (at k))
