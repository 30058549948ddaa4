-- Runs by pairs: what `is_run` says of each two records.
use Rattle.std.proofs.Common.{◌≡◌, ℕ, ◌+◌, ◌<◌, ◌≤◌, Bool, true, false, cond, not, ◌&&◌, ◌||◌, eqb, ltb, leb, List, [], ◌∷◌, Some, None, sym, refl, ap, ◌∙◌, arith}
use Rattle.std.proofs.lemmas.Bool.Decides.{nat_tests}
use Rattle.std.specs.List.{AllByRecursion}
use Rattle.records.specs.declared.tombstone.Tombstone.{Tombstone}
use Rattle.records.specs.Order.{upto}
use Rattle.records.specs.Ranges.{in_range}
use Rattle.records.specs.Content.{Mutation, deletion, entry, covered}
use Rattle.canon.specs.Run.{all, key_of, ascends, same_tombstone, apart, before, is_run, IsRun, InRange}
use Rattle.canon.specs.Spans.{ascending}

-- x has the lesser key
abbrev pub Ascends : Mutation → Mutation → Type 0
Ascends x y = upto (key_of y) (key_of x) ≡ false

-- deletions of a section do not overlap, and those that touch differ; a deletion covers no cell
abbrev pub Apart : Mutation → Mutation → Type 0
Apart (deletion s a b t) (deletion s' a' b' t') = s ≡ s' → (b < a') × (b + 1 ≡ a' → t ≡ t' → ⊥)
Apart (deletion s a b t) (entry s' p f c) = s ≡ s' → a ≤ p → p ≤ b → t.stamp < c.stamp
Apart (entry s p f c) y = Unit {0}

abbrev pub Before : Mutation → Mutation → Type 0
Before x y = Ascends x y × Apart x y

abbrev pub Pairs : List Mutation → Type 0
Pairs [] = Unit {0}
Pairs (x ∷ xs) = AllByRecursion (Before x) xs × Pairs xs

-- the keys ascend
abbrev pub Ascending : List Mutation → Type 0
Ascending [] = Unit {0}
Ascending (x ∷ xs) = AllByRecursion (Ascends x) xs × Ascending xs

-- the first plot of a deletion is no greater than its last
abbrev pub Proper : Mutation → Type 0
Proper (deletion s a b t) = a ≤ b
Proper (entry s p f c) = Unit {0}

-- ---- a test and what it says

not_true : (b : Bool) → not b ≡ true → b ≡ false
not_true true h = sym h
not_true false h = refl

not_false : (b : Bool) → b ≡ false → not b ≡ true
not_false b h = ap not h

pub and_left : (a b : Bool) → (a && b) ≡ true → a ≡ true
and_left true b h = refl
and_left false b h = h

pub and_right : (a b : Bool) → (a && b) ≡ true → b ≡ true
and_right true b h = h
and_right false b h = absurd (let z : ◌≡◌ {A = ℕ} 0 1 = cc in omega arith)

pub both : (a b : Bool) → a ≡ true → b ≡ true → (a && b) ≡ true
both a b h k = ap (λ x. x && b) h ∙ k

pub ascends-says : (x y : Mutation) → ascends x y ≡ true → Ascends x y
ascends-says x y h = not_true (upto (key_of y) (key_of x)) h

pub ascends_holds : (x y : Mutation) → Ascends x y → ascends x y ≡ true
ascends_holds x y h = not_false (upto (key_of y) (key_of x)) h

pub same_tombstone_lem : (t u : Tombstone) → same_tombstone t u ≡ true → t ≡ u
same_tombstone_lem t u h =
    let e : t.stamp ≡ u.stamp = grind (arith, nat_tests) in
    let d : t.day ≡ u.day = grind (arith, nat_tests) in
    λ i. record { stamp = e i; day = d i }

pub tombstone_same : (t u : Tombstone) → t ≡ u → same_tombstone t u ≡ true
tombstone_same t u h =
    let e : t.stamp ≡ u.stamp = ap (λ x. x.stamp) h in
    let d : t.day ≡ u.day = ap (λ x. x.day) h in
    grind (arith, nat_tests)

pub apart-says : (x y : Mutation) → apart x y ≡ true → Apart x y
apart-says (entry s p f c) y h = tt
apart-says (deletion s a b t) (deletion s' a' b' t') h =
    λ e. (grind (arith, nat_tests), λ touch same. let k : same_tombstone t t' ≡ true = tombstone_same t t' same in grind (arith, nat_tests))
apart-says (deletion s a b t) (entry s' p f c) h =
    λ e l r.
    let on : (eqb s' s && (leb a p && leb p b)) ≡ true = grind (arith, nat_tests) in
    let k : not (leb c.stamp t.stamp) ≡ true = ap (λ v. not (covered (cond v (Some t) None) c.stamp)) (sym on) ∙ h in
    grind (arith, nat_tests)

pub apart_holds : (x y : Mutation) → Apart x y → apart x y ≡ true
apart_holds (entry s p f c) y h = refl
apart_holds (deletion s a b t) (deletion s' a' b' t') h = go (eqb s s') refl
  where
    go : (v : Bool) → eqb s s' ≡ v → (not v || (ltb b a' && not (eqb (b + 1) a' && same_tombstone t t'))) ≡ true
    go false e = refl
    go true e = inner (eqb (b + 1) a' && same_tombstone t t') refl
      where
        q : s ≡ s'
        q = grind (arith, nat_tests)

        inner : (w : Bool) → (eqb (b + 1) a' && same_tombstone t t') ≡ w → (ltb b a' && not w) ≡ true
        inner true k =
            let touch : b + 1 ≡ a' = let i = and_left (eqb (b + 1) a') (same_tombstone t t') k in grind (arith, nat_tests) in
            absurd ((h q).1 touch (same_tombstone_lem t t' (and_right (eqb (b + 1) a') (same_tombstone t t') k)))
        inner false k = let l = (h q).0 in grind (arith, nat_tests)
apart_holds (deletion s a b t) (entry s' p f c) h = go (eqb s' s && (leb a p && leb p b)) refl
  where
    go : (v : Bool) → (eqb s' s && (leb a p && leb p b)) ≡ v → not (covered (cond v (Some t) None) c.stamp) ≡ true
    go false e = refl
    go true e =
        let q : s ≡ s' = grind (arith, nat_tests) in
        let l : a ≤ p = grind (arith, nat_tests) in
        let r : p ≤ b = grind (arith, nat_tests) in
        let k = h q l r in
        grind (arith, nat_tests)

pub before-says : (x y : Mutation) → before x y ≡ true → Before x y
before-says x y h = (ascends-says x y (and_left (ascends x y) (apart x y) h), apart-says x y (and_right (ascends x y) (apart x y) h))

pub before_holds : (x y : Mutation) → Before x y → before x y ≡ true
before_holds x y h = both (ascends x y) (apart x y) (ascends_holds x y h.0) (apart_holds x y h.1)

-- ---- of each element

pub all-says : {A : Type 0} (test : A → Bool) (P : A → Type 0) → ((x : A) → test x ≡ true → P x) → (xs : List A) → all test xs ≡ true → AllByRecursion P xs
all-says test P f [] h = tt
all-says test P f (x ∷ xs) h = (f x (and_left (test x) (all test xs) h), all-says test P f xs (and_right (test x) (all test xs) h))

pub all_holds : {A : Type 0} (test : A → Bool) (P : A → Type 0) → ((x : A) → P x → test x ≡ true) → (xs : List A) → AllByRecursion P xs → all test xs ≡ true
all_holds test P f [] h = refl
all_holds test P f (x ∷ xs) h = both (test x) (all test xs) (f x h.0) (all_holds test P f xs h.1)

pub run_says : (xs : List Mutation) → IsRun xs → Pairs xs
run_says [] h = tt
run_says (x ∷ xs) h = (all-says (before x) (Before x) (before-says x) xs (and_left (all (before x) xs) (is_run xs) h), run_says xs (and_right (all (before x) xs) (is_run xs) h))

pub run_holds : (xs : List Mutation) → Pairs xs → IsRun xs
run_holds [] h = refl
run_holds (x ∷ xs) h = both (all (before x) xs) (is_run xs) (all_holds (before x) (Before x) (before_holds x) xs h.0) (run_holds xs h.1)

pub ascending-says : (xs : List Mutation) → ascending xs ≡ true → Ascending xs
ascending-says [] h = tt
ascending-says (x ∷ xs) h = (all-says (ascends x) (Ascends x) (ascends-says x) xs (and_left (all (ascends x) xs) (ascending xs) h), ascending-says xs (and_right (all (ascends x) xs) (ascending xs) h))

pub ascending_holds : (xs : List Mutation) → Ascending xs → ascending xs ≡ true
ascending_holds [] h = refl
ascending_holds (x ∷ xs) h = both (all (ascends x) xs) (ascending xs) (all_holds (ascends x) (Ascends x) (ascends_holds x) xs h.0) (ascending_holds xs h.1)

pub range_proper : (x : Mutation) → in_range x ≡ true → Proper x
range_proper (deletion s a b t) h = grind (arith, nat_tests)
range_proper (entry s p f c) h = tt

pub ranges_proper : (xs : List Mutation) → InRange xs → AllByRecursion Proper xs
ranges_proper = all-says in_range Proper range_proper
