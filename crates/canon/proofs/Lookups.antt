-- Looking things up in a run, in place.
use Rattle.std.proofs.Common.{◌≡◌, ℕ, zero, suc, ◌-◌, ◌<◌, ◌≤◌, Bool, true, false, cond, ◌&&◌, eqb, leb, ◌⊎◌, List, [], ◌∷◌, length, get_or, Some, None, sym, refl, ap, ◌∙◌, subst, inl, inr, arith}
use mathlib.Core.List.{Memᴰ}
use Rattle.std.proofs.lemmas.Bool.Decides.{nat_tests}
use Rattle.std.proofs.lemmas.Bool.{cases_lt, cases_eq, cases_order}
use Rattle.std.proofs.ByRecursion.{All-from_get_or}
use Rattle.records.specs.Order.{upto}
use Rattle.records.specs.Content.{Version, Mutation, deletion, entry, one, content_of, later}
use Rattle.canon.specs.Run.{key_of}
use Rattle.canon.proofs.Pairs.{Ascends, Before, Pairs}
use Rattle.reconcile.proofs.Orders.{upto_refl, upto_total}
use Rattle.reconcile.proofs.Places.{later_none}
use Rattle.canon.proofs.Runs.{no_cover, no_cell, run_cell}
use Rattle.canon.proofs.Checks.{from_run}

pub member_at : {X : Type 0} (xs : List X) (k : ℕ) (d : X) → k < length xs → Memᴰ (get_or xs k d) xs
member_at [] k d h = absurd (omega arith)
member_at (x ∷ xs) zero d h = Memᴰ.head refl
member_at (x ∷ xs) (suc k) d h = Memᴰ.tail (member_at xs k d (omega arith))

-- only the n-th is over (s, p)
pub only_cover : (s p : ℕ) (xs : List Mutation) (n : ℕ) (d : Mutation) → n < length xs → ((k : ℕ) → k < length xs → (k ≡ n → ⊥) → (one (get_or xs k d)).cover s p ≡ None) → (content_of xs).cover s p ≡ (one (get_or xs n d)).cover s p
only_cover s p [] n d l h = absurd (omega arith)
only_cover s p (x ∷ xs) zero d l h =
    ap (later ((one x).cover s p)) (no_cover s p xs (All-from_get_or (λ r. (one r).cover s p ≡ None) xs d (λ k m. h (suc k) (omega arith) (omega arith)))) ∙ later_none ((one x).cover s p)
only_cover s p (x ∷ xs) (suc n) d l h =
    ap (λ o. later o ((content_of xs).cover s p)) (h 0 (omega arith) (omega arith)) ∙ only_cover s p xs n d (omega arith) (λ k m e. h (suc k) (omega arith) (omega arith))

-- the n-th is the first with the key or a greater one
abbrev pub Starts : List ℕ → List Mutation → Mutation → ℕ → Type 0
Starts key xs d n = (n ≤ length xs) × ((k : ℕ) → k < n → upto key (key_of (get_or xs k d)) ≡ false) × ((k : ℕ) → n ≤ k → k < length xs → upto key (key_of (get_or xs k d)) ≡ true)

-- ---- the cover of (s, p): that of the last record whose key is below (s, 0, p, 1)

after_off : (x : Mutation) (s p : ℕ) → upto (s ∷ 0 ∷ p ∷ 1 ∷ []) (key_of x) ≡ true → (one x).cover s p ≡ None
after_off (deletion s' a b t) s p h = go (eqb s s' && (leb a p && leb p b)) refl
  where
    go : (v : Bool) → (eqb s s' && (leb a p && leb p b)) ≡ v → cond v (Some t) None ≡ None
    go true e = absurd (grind (arith, nat_tests))
    go false e = refl
after_off (entry s' p' f' c') s p h = refl

earlier_off : (x y : Mutation) (s p : ℕ) → Before x y → upto (s ∷ 0 ∷ p ∷ 1 ∷ []) (key_of y) ≡ false → (one x).cover s p ≡ None
earlier_off (entry s' p' f' c') y s p h k = refl
earlier_off (deletion s' a b t) (entry s'' p'' f'' c'') s p h k = go (eqb s s' && (leb a p && leb p b)) refl
  where
    asc : Ascends (deletion s' a b t) (entry s'' p'' f'' c'')
    asc = h.0

    go : (v : Bool) → (eqb s s' && (leb a p && leb p b)) ≡ v → cond v (Some t) None ≡ None
    go true e = let q = asc in absurd (grind (arith, nat_tests))
    go false e = refl
earlier_off (deletion s' a b t) (deletion s'' a'' b'' t'') s p h k = go (eqb s s' && (leb a p && leb p b)) refl (cases_eq s' s'')
  where
    asc : Ascends (deletion s' a b t) (deletion s'' a'' b'' t'')
    asc = h.0

    go : (v : Bool) → (eqb s s' && (leb a p && leb p b)) ≡ v → (s' ≡ s'') ⊎ (s' ≡ s'' → ⊥) → cond v (Some t) None ≡ None
    go true e (inl w) = let q = (h.1 w).0 in absurd (grind (arith, nat_tests))
    go true e (inr w) = let q = asc in absurd (grind (arith, nat_tests))
    go false e w = refl

pub cover_last : (xs : List Mutation) (d : Mutation) (s p n : ℕ) → Pairs xs → Starts (s ∷ 0 ∷ p ∷ 1 ∷ []) xs d n → 0 < n → (content_of xs).cover s p ≡ (one (get_or xs (n - 1) d)).cover s p
cover_last xs d s p n h f l =
    only_cover s p xs (n - 1) d (omega arith) (λ k m e. go k m (cases_lt k (n - 1)) e)
  where
    go : (k : ℕ) → k < length xs → (k < n - 1) ⊎ (n - 1 ≤ k) → (k ≡ n - 1 → ⊥) → (one (get_or xs k d)).cover s p ≡ None
    go k m (inl a) e = earlier_off (get_or xs k d) (get_or xs (n - 1) d) s p (from_run xs d h k (n - 1) a (omega arith)) (f.1 (n - 1) (omega arith))
    go k m (inr a) e = after_off (get_or xs k d) s p (f.2 k (omega arith) m)

pub cover_none : (xs : List Mutation) (d : Mutation) (s p : ℕ) → Starts (s ∷ 0 ∷ p ∷ 1 ∷ []) xs d 0 → (content_of xs).cover s p ≡ None
cover_none xs d s p f = no_cover s p xs (All-from_get_or (λ r. (one r).cover s p ≡ None) xs d (λ k m. after_off (get_or xs k d) s p (f.2 k (omega arith) m)))

-- ---- the cell at (s, p, f): that of the first record whose key is not below (s, 1, p, f)

pub cell_at_lem : (xs : List Mutation) (d : Mutation) (s p f n : ℕ) (c : Version) → Pairs xs → n < length xs → get_or xs n d ≡ entry s p f c → (content_of xs).cell s p f ≡ Some c
cell_at_lem xs d s p f n c h l e = run_cell xs s p f c h (subst (λ w. Memᴰ w xs) e (member_at xs n d l))

-- a record that is no cell of the place
off_key : (x : Mutation) (s p f : ℕ) → (key_of x ≡ (s ∷ 1 ∷ p ∷ f ∷ []) → ⊥) → (one x).cell s p f ≡ None
off_key (deletion s' a b t) s p f h = refl
off_key (entry s' p' f' c) s p f h = go (eqb s s' && (eqb p p' && eqb f f')) refl
  where
    go : (v : Bool) → (eqb s s' && (eqb p p' && eqb f f')) ≡ v → cond v (Some c) None ≡ None
    go true e =
        let q : s' ≡ s = grind (arith, nat_tests) in let q' : p' ≡ p = grind (arith, nat_tests) in let q'' : f' ≡ f = grind (arith, nat_tests) in
        absurd (h (λ i. q i ∷ 1 ∷ q' i ∷ q'' i ∷ []))
    go false e = refl

-- no cell at a place whose key is not below the given one, but below that of the first record from there on
pub cell_between : (xs : List Mutation) (d : Mutation) (key : List ℕ) (s p f n : ℕ) → Pairs xs → Starts key xs d n → upto key (s ∷ 1 ∷ p ∷ f ∷ []) ≡ true → (n < length xs → upto (key_of (get_or xs n d)) (s ∷ 1 ∷ p ∷ f ∷ []) ≡ false) → (content_of xs).cell s p f ≡ None
cell_between xs d key s p f n h g u e = no_cell s p f xs (All-from_get_or (λ r. (one r).cell s p f ≡ None) xs d (λ k m. off_key (get_or xs k d) s p f (λ is. go k m is (cases_order k n))))
  where
    clash : {v : Bool} → v ≡ true → v ≡ false → ⊥
    clash i j = let z : ◌≡◌ {A = ℕ} 0 1 = cc in omega arith

    go : (k : ℕ) → k < length xs → key_of (get_or xs k d) ≡ (s ∷ 1 ∷ p ∷ f ∷ []) → (k ≡ n) ⊎ ((k < n) ⊎ (n < k)) → ⊥
    go k m is (inl a) =
        let same : key_of (get_or xs n d) ≡ (s ∷ 1 ∷ p ∷ f ∷ []) = subst (λ j. key_of (get_or xs j d) ≡ (s ∷ 1 ∷ p ∷ f ∷ [])) a is in
        clash (ap (λ w. upto w (s ∷ 1 ∷ p ∷ f ∷ [])) same ∙ upto_refl (s ∷ 1 ∷ p ∷ f ∷ [])) (e (omega arith))
    go k m is (inr (inl a)) = clash (ap (upto key) is ∙ u) (g.1 k a)
    go k m is (inr (inr a)) = clash (ap (upto (key_of (get_or xs n d))) (sym is) ∙ upto_total (key_of (get_or xs k d)) (key_of (get_or xs n d)) (from_run xs d h n k a m).0) (e (omega arith))
