-- What is enough to see that one more record keeps a run in order.
use Rattle.std.proofs.Common.{◌≡◌, ℕ, zero, suc, ◌+◌, ◌-◌, ◌<◌, ◌≤◌, ◌⊎◌, List, [], ◌∷◌, length, get_or, take, sym, ◌∙◌, subst, inl, inr, arith}
use Rattle.std.proofs.lemmas.Bool.Decides.{nat_tests}
use Rattle.std.proofs.lemmas.Bool.{cases_lt, cases_eq}
use Rattle.std.proofs.lemmas.List.{length-take-le, get_or-take}
use Rattle.std.proofs.ByRecursion.{All-get_or, All-from_get_or}
use Rattle.records.specs.declared.tombstone.Tombstone.{Tombstone}
use Rattle.records.specs.Content.{Version, Mutation, deletion, entry}
use Rattle.canon.specs.Run.{key_of}
use Rattle.canon.specs.Check.{Passed}
use Rattle.canon.proofs.Pairs.{Ascends, Apart, Before, Pairs, Proper}
use Rattle.reconcile.proofs.Orders.{upto_falls}

pub ascends_trans : (x y z : Mutation) → Ascends x y → Ascends y z → Ascends x z
ascends_trans x y z h k = upto_falls (key_of z) (key_of y) (key_of x) k h

-- ---- three records

-- what is passed stays passed, and is before
pub passed_on : (x y z : Mutation) → Passed x y → Ascends y z → Passed x z
passed_on (deletion s a b t) (deletion s' a' b' t') (deletion s'' a'' b'' t'') h k = grind (arith, nat_tests)
passed_on (deletion s a b t) (deletion s' a' b' t') (entry s'' p'' f'' c'') h k = inl (grind (arith, nat_tests))
passed_on (deletion s a b t) (entry s' p' f' c') (deletion s'' a'' b'' t'') h k = grind (arith, nat_tests)
passed_on (deletion s a b t) (entry s' p' f' c') (entry s'' p'' f'' c'') h k = grind (arith, nat_tests)
passed_on (entry s p f c) (deletion s' a' b' t') (deletion s'' a'' b'' t'') h k = grind (arith, nat_tests)
passed_on (entry s p f c) (deletion s' a' b' t') (entry s'' p'' f'' c'') h k = grind (arith, nat_tests)
passed_on (entry s p f c) (entry s' p' f' c') (deletion s'' a'' b'' t'') h k = grind (arith, nat_tests)
passed_on (entry s p f c) (entry s' p' f' c') (entry s'' p'' f'' c'') h k = grind (arith, nat_tests)

pub passed_before : (x y : Mutation) → Passed x y → Before x y
passed_before (deletion s a b t) (deletion s' a' b' t') h = (grind (arith, nat_tests), λ e. absurd (omega arith))
passed_before (deletion s a b t) (entry s' p' f' c') h = (grind (arith, nat_tests), λ e l r. grind arith)
passed_before (entry s p f c) (deletion s' a' b' t') h = (grind (arith, nat_tests), tt)
passed_before (entry s p f c) (entry s' p' f' c') h = (grind (arith, nat_tests), tt)

-- a deletion that may follow one that may follow x may follow x
pub chain : (x v : Mutation) (s a b : ℕ) (t : Tombstone) → Proper v → Before x v → Before v (deletion s a b t) → Before x (deletion s a b t)
chain x v s a b t g h k = (ascends_trans x v (deletion s a b t) h.0 k.0, apart x v g h k)
  where
    apart : (x v : Mutation) → Proper v → Before x v → Before v (deletion s a b t) → Apart x (deletion s a b t)
    apart (entry s' p' f' c') v g h k = tt
    apart (deletion s' a' b' t') (entry s'' p'' f'' c'') g h k = let i = h.0 in let j = k.0 in λ e. absurd (grind (arith, nat_tests))
    apart (deletion s' a' b' t') (deletion s'' a'' b'' t'') g h k =
        λ e.
        let i = h.0 in let j = k.0 in
        let q : s' ≡ s'' = grind (arith, nat_tests) in
        let l = (h.1 q).0 in let r = (k.1 (sym q ∙ e)).0 in
        (omega arith, λ z w. omega arith)

-- x is the first that is not passed by a cell: what comes after x does not cover the cell
beyond : (x y : Mutation) (s p f : ℕ) (c : Version) → Before x y → (Passed x (entry s p f c) → ⊥) → Ascends y (entry s p f c) → Before y (entry s p f c)
beyond x y s p f c h n k = (k, apart x y h n k)
  where
    apart : (x y : Mutation) → Before x y → (Passed x (entry s p f c) → ⊥) → Ascends y (entry s p f c) → Apart y (entry s p f c)
    apart x (entry s' p' f' c') h n k = tt
    apart (entry s' p' f' c') (deletion s'' a'' b'' t'') h n k = let i = h.0 in λ e l r. absurd (n (grind (arith, nat_tests)))
    apart (deletion s' a' b' t') (deletion s'' a'' b'' t'') h n k =
        let i = h.0 in λ e l r. absurd (go (cases_eq s' s'') e l r i)
      where
        go : (s' ≡ s'') ⊎ (s' ≡ s'' → ⊥) → s'' ≡ s → a'' ≤ p → p ≤ b'' → Ascends (deletion s' a' b' t') (deletion s'' a'' b'' t'') → ⊥
        go (inl q) e l r i = let u = (h.1 q).0 in n (inr (q ∙ e, omega arith))
        go (inr q) e l r i = n (inl (grind (arith, nat_tests)))

-- x the first that is not passed, y after it, v the last, z the new one
pub next_before : (x y v z : Mutation) → Proper v → Before x y → (Passed x z → ⊥) → Before y v → Before v z → Before y z
next_before x y v (deletion s a b t) g h n k l = chain y v s a b t g k l
next_before x y v (entry s p f c) g h n k l = beyond x y s p f c h n (ascends_trans y v (entry s p f c) k.0 l.0)

-- ---- at indices: R k is the k-th record, however it is stored

abbrev pub InOrder : (ℕ → Mutation) → ℕ → Type 0
InOrder R n = (j k : ℕ) → j < k → k < n → Before (R j) (R k)

module _ (R : ℕ → Mutation) (i d : ℕ) (run : InOrder R i) (proper : (k : ℕ) → k < i → Proper (R k)) (behind : (k : ℕ) → k < d → Passed (R k) (R i)) (stops : d < i → Passed (R d) (R i) → ⊥) (last : 0 < i → Before (R (i - 1)) (R i)) (first : d < i → Before (R d) (R i)) where
  all-before : (k : ℕ) → k < i → Before (R k) (R i)
  all-before k l = go (cases_lt k d) (cases_eq k d) (cases_eq k (i - 1))
    where
      go : (k < d) ⊎ (d ≤ k) → (k ≡ d) ⊎ (k ≡ d → ⊥) → (k ≡ i - 1) ⊎ (k ≡ i - 1 → ⊥) → Before (R k) (R i)
      go (inl a) b c = passed_before (R k) (R i) (behind k a)
      go (inr a) (inl b) c = subst (λ j. Before (R j) (R i)) (sym b) (first (omega arith))
      go (inr a) (inr b) (inl c) = subst (λ j. Before (R j) (R i)) (sym c) (last (omega arith))
      go (inr a) (inr b) (inr c) =
          next_before (R d) (R k) (R (i - 1)) (R i) (proper (i - 1) (omega arith))
          (run d k (omega arith) l) (stops (omega arith)) (run k (i - 1) (omega arith) (omega arith)) (last (omega arith))

  pub one_more : InOrder R (i + 1)
  one_more j k l m = go (cases_eq k i)
    where
      go : (k ≡ i) ⊎ (k ≡ i → ⊥) → Before (R j) (R k)
      go (inl e) = subst (λ n. Before (R j) (R n)) (sym e) (all-before j (omega arith))
      go (inr e) = run j k l (omega arith)

-- ---- as lists

-- the first n records of xs are those of R
abbrev pub Reads : (ℕ → Mutation) → List Mutation → Mutation → ℕ → Type 0
Reads R xs d n = (n ≤ length xs) × ((k : ℕ) → k < n → get_or xs k d ≡ R k)

to_run : (xs : List Mutation) (d : Mutation) → InOrder (λ k. get_or xs k d) (length xs) → Pairs xs
to_run [] d h = tt
to_run (x ∷ xs) d h = (All-from_get_or (Before x) xs d (λ k l. h 0 (suc k) (omega arith) (omega arith)), to_run xs d (λ j k l m. h (suc j) (suc k) (omega arith) (omega arith)))

pub from_run : (xs : List Mutation) (d : Mutation) → Pairs xs → InOrder (λ k. get_or xs k d) (length xs)
from_run [] d h j k l m = absurd (omega arith)
from_run (x ∷ xs) d h j zero l m = absurd (omega arith)
from_run (x ∷ xs) d h zero (suc k) l m = All-get_or (Before x) xs k d (omega arith) h.0
from_run (x ∷ xs) d h (suc j) (suc k) l m = from_run xs d h.1 j k (omega arith) (omega arith)

order_along : (P Q : ℕ → Mutation) (n : ℕ) → ((k : ℕ) → k < n → P k ≡ Q k) → InOrder P n → InOrder Q n
order_along P Q n e h j k l m = subst (λ w. Before w (Q k)) (e j (omega arith)) (subst (λ w. Before (P j) w) (e k m) (h j k l m))

pub run_from_order : (R : ℕ → Mutation) (xs : List Mutation) (d : Mutation) (n : ℕ) → Reads R xs d n → InOrder R n → Pairs (take n xs)
run_from_order R xs d n h o =
    to_run (take n xs) d (subst (λ m. InOrder (λ k. get_or (take n xs) k d) m) (sym (length-take-le n xs h.0)) (order_along R (λ k. get_or (take n xs) k d) n (λ k l. sym (get_or-take n xs k d l ∙ h.1 k l)) o))

pub order_from_run : (R : ℕ → Mutation) (xs : List Mutation) (d : Mutation) (n : ℕ) → Reads R xs d n → Pairs (take n xs) → InOrder R n
order_from_run R xs d n h r =
    order_along (λ k. get_or (take n xs) k d) R n (λ k l. get_or-take n xs k d l ∙ h.1 k l) (subst (λ m. InOrder (λ k. get_or (take n xs) k d) m) (length-take-le n xs h.0) (from_run (take n xs) d r))
