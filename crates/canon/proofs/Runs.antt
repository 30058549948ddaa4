-- What a run says of its content, and one content has one run.
use Rattle.std.proofs.Common.{◌≡◌, ℕ, ◌+◌, ◌-◌, ◌<◌, ◌≤◌, Bool, true, false, cond, ◌&&◌, eqb, leb, ◌⊎◌, List, [], ◌∷◌, Some, None, Option, sym, refl, ap, ◌∙◌, subst, inl, inr, arith}
use mathlib.Core.List.Memᴰ
use mathlib.Core.List.{Memᴰ}
use Rattle.std.proofs.lemmas.Bool.Decides.{nat_tests}
use Rattle.std.specs.List.{AllByRecursion}
use Rattle.records.specs.declared.tombstone.Tombstone.{Tombstone}
use Rattle.records.specs.Content.{Version, Content, Mutation, deletion, entry, one, content_of, later, greater, covered, uncovered}
use Rattle.canon.specs.Run.{key_of}
use Rattle.canon.specs.Spans.{Span, Held}
use Rattle.reconcile.proofs.Orders.{upto_total}
use Rattle.reconcile.proofs.Places.{later_none, greater_none, floor, floor_later, let_through, is_through, later_laws, greater_laws}
use Rattle.reconcile.proofs.Joins.{content_of_settled}
use Rattle.canon.proofs.Pairs.{Ascends, Before, Pairs, Proper}

-- ---- one record

on : (s a b p : ℕ) → a ≤ p → p ≤ b → (eqb s s && (leb a p && leb p b)) ≡ true
on s a b p h k = grind (arith, nat_tests)

off : (s s' a b p : ℕ) → (s ≡ s' → a ≤ p → p ≤ b → ⊥) → (eqb s s' && (leb a p && leb p b)) ≡ false
off s s' a b p h = grind (arith, nat_tests)

off_cell : (s s' p p' f f' : ℕ) → (s ≡ s' → p ≡ p' → f ≡ f' → ⊥) → (eqb s s' && (eqb p p' && eqb f f')) ≡ false
off_cell s s' p p' f f' h = grind (arith, nat_tests)

at_cell : (s p f : ℕ) → (eqb s s && (eqb p p && eqb f f)) ≡ true
at_cell s p f = grind (arith, nat_tests)

cond_off : {X : Type 0} (b : Bool) (x : Option X) → b ≡ false → cond b x None ≡ None
cond_off b x e = rw e refl

cond_on : {X : Type 0} (b : Bool) (x y : Option X) → b ≡ true → cond b x y ≡ x
cond_on b x y e = rw e refl

-- no deletion before or after one over (s, p) is over it
left_off : (x : Mutation) (s a b p : ℕ) (t : Tombstone) → Before x (deletion s a b t) → a ≤ p → p ≤ b → (one x).cover s p ≡ None
left_off (deletion s' a' b' t') s a b p t h l r = cond_off _ (Some t') (off s s' a' b' p (λ e i j. omega (arith, (h.1 (sym e)).0)))
left_off (entry s' p' f' c') s a b p t h l r = refl

right_off : (y : Mutation) (s a b p : ℕ) (t : Tombstone) → Before (deletion s a b t) y → a ≤ p → p ≤ b → (one y).cover s p ≡ None
right_off (deletion s' a' b' t') s a b p t h l r = cond_off _ (Some t') (off s s' a' b' p (λ e i j. omega (arith, (h.1 e).0)))
right_off (entry s' p' f' c') s a b p t h l r = refl

-- no other cell is at the place of one
left_cell : (x : Mutation) (s p f : ℕ) (c : Version) → Before x (entry s p f c) → (one x).cell s p f ≡ None
left_cell (deletion s' a' b' t') s p f c h = refl
left_cell (entry s' p' f' c') s p f c h = let k = h.0 in cond_off _ (Some c') (off_cell s s' p p' f f' (λ e i j. grind (arith, nat_tests)))

right_cell : (y : Mutation) (s p f : ℕ) (c : Version) → Before (entry s p f c) y → (one y).cell s p f ≡ None
right_cell (deletion s' a' b' t') s p f c h = refl
right_cell (entry s' p' f' c') s p f c h = let k = h.0 in cond_off _ (Some c') (off_cell s s' p p' f f' (λ e i j. grind (arith, nat_tests)))

-- no deletion after a cell is over it, and none before covers it
right_over : (y : Mutation) (s p f : ℕ) (c : Version) → Before (entry s p f c) y → (one y).cover s p ≡ None
right_over (deletion s' a' b' t') s p f c h = let k = h.0 in cond_off _ (Some t') (off s s' a' b' p (λ e i j. grind (arith, nat_tests)))
right_over (entry s' p' f' c') s p f c h = refl

left_over : (x : Mutation) (s p f : ℕ) (c : Version) → Before x (entry s p f c) → floor ((one x).cover s p) ≤ c.stamp
left_over (deletion s' a' b' t') s p f c h = go (eqb s s' && (leb a' p && leb p b')) refl
  where
    go : (v : Bool) → (eqb s s' && (leb a' p && leb p b')) ≡ v → floor (cond v (Some t') None) ≤ c.stamp
    go true e = let q : (s' ≡ s) × (a' ≤ p) × (p ≤ b') = (grind (arith, nat_tests), grind (arith, nat_tests), grind (arith, nat_tests)) in omega (arith, h.1 q.0 q.1 q.2)
    go false e = omega arith
left_over (entry s' p' f' c') s p f c h = omega arith

-- ---- what a list of records says, with no join: of any list ..

pub no_cover : (s p : ℕ) (xs : List Mutation) → AllByRecursion (λ r. (one r).cover s p ≡ None) xs → (content_of xs).cover s p ≡ None
no_cover s p [] h = refl
no_cover s p (x ∷ xs) h = ap (λ o. later o ((content_of xs).cover s p)) h.0 ∙ no_cover s p xs h.1

pub no_cell : (s p f : ℕ) (xs : List Mutation) → AllByRecursion (λ r. (one r).cell s p f ≡ None) xs → (content_of xs).cell s p f ≡ None
no_cell s p f [] h = refl
no_cell s p f (x ∷ xs) h = ap (uncovered ((content_of (x ∷ xs)).cover s p)) (ap (λ o. greater o ((content_of xs).cell s p f)) h.0 ∙ no_cell s p f xs h.1)

all_map : {X : Type 0} {P Q : X → Type 0} → ((x : X) → P x → Q x) → (xs : List X) → AllByRecursion P xs → AllByRecursion Q xs
all_map f [] h = tt
all_map f (x ∷ xs) h = (f x h.0, all_map f xs h.1)

pub all_member : {X : Type 0} (P : X → Type 0) {x : X} (xs : List X) → AllByRecursion P xs → Memᴰ x xs → P x
all_member P [] h m = elim m [ ]
all_member P {x = x} (y ∷ ys) h m = go (Memᴰ.cases_cons m) (all_member P ys h.1)
  where
    go : (x ≡ y) ⊎ Memᴰ x ys → (Memᴰ x ys → P x) → P x
    go (inl e) ih = subst P (sym e) h.0
    go (inr k) ih = ih k

-- .. and of a run

pub run_cover : (xs : List Mutation) (s a b p : ℕ) (t : Tombstone) → Pairs xs → Memᴰ (deletion s a b t) xs → a ≤ p → p ≤ b → (content_of xs).cover s p ≡ Some t
run_cover [] s a b p t h m l r = elim m [ ]
run_cover (x ∷ xs) s a b p t h m l r = go (Memᴰ.cases_cons m) (λ k. run_cover xs s a b p t h.1 k l r)
  where
    go : (deletion s a b t ≡ x) ⊎ Memᴰ (deletion s a b t) xs → (Memᴰ (deletion s a b t) xs → (content_of xs).cover s p ≡ Some t) → (content_of (x ∷ xs)).cover s p ≡ Some t
    go (inl e) ih =
        let after : AllByRecursion (Before (deletion s a b t)) xs = subst (λ y. AllByRecursion (Before y) xs) (sym e) h.0 in
        ap (λ y. later ((one y).cover s p) ((content_of xs).cover s p)) (sym e)
        ∙ ap (later ((one (deletion s a b t)).cover s p)) (no_cover s p xs (all_map (λ y k. right_off y s a b p t k l r) xs after))
        ∙ later_none ((one (deletion s a b t)).cover s p)
        ∙ cond_on _ (Some t) None (on s a b p l r)
    go (inr k) ih = ap (λ o. later o ((content_of xs).cover s p)) (left_off x s a b p t (all_member (Before x) xs h.0 k) l r) ∙ ih k

pub run_cell : (xs : List Mutation) (s p f : ℕ) (c : Version) → Pairs xs → Memᴰ (entry s p f c) xs → (content_of xs).cell s p f ≡ Some c
run_cell [] s p f c h m = elim m [ ]
run_cell (x ∷ xs) s p f c h m = go (Memᴰ.cases_cons m) (run_cell xs s p f c h.1)
  where
    go : (entry s p f c ≡ x) ⊎ Memᴰ (entry s p f c) xs → (Memᴰ (entry s p f c) xs → (content_of xs).cell s p f ≡ Some c) → (content_of (x ∷ xs)).cell s p f ≡ Some c
    go (inl e) ih =
        let after : AllByRecursion (Before (entry s p f c)) xs = subst (λ y. AllByRecursion (Before y) xs) (sym e) h.0 in
        let bare : (content_of xs).cover s p ≡ None = no_cover s p xs (all_map (λ y k. right_over y s p f c k) xs after) in
        let alone : (content_of xs).cell s p f ≡ None = no_cell s p f xs (all_map (λ y k. right_cell y s p f c k) xs after) in
        ap (λ y. (content_of (y ∷ xs)).cell s p f) (sym e)
        ∙ (λ i. uncovered (bare i) (greater ((one (entry s p f c)).cell s p f) (alone i)))
        ∙ ap (uncovered None) (greater_none ((one (entry s p f c)).cell s p f) ∙ cond_on _ (Some c) None (at_cell s p f))
        ∙ let_through None c (omega arith)
    go (inr k) rest =
        let here : Before x (entry s p f c) = all_member (Before x) xs h.0 k in
        let ih : (content_of xs).cell s p f ≡ Some c = rest k in
        let low = left_over x s p f c here in
        let low' = is_through ((content_of xs).cover s p) c (ap (uncovered ((content_of xs).cover s p)) (sym ih) ∙ content_of_settled xs s p f ∙ ih) in
        (λ i. uncovered ((content_of (x ∷ xs)).cover s p) (greater (left_cell x s p f c here i) (ih i)))
        ∙ let_through ((content_of (x ∷ xs)).cover s p) c (omega (arith, floor_later ((one x).cover s p) ((content_of xs).cover s p)))

-- ---- where it comes from: of any list

one_found : (x : Mutation) (s p : ℕ) (t : Tombstone) → (one x).cover s p ≡ Some t → (a : ℕ) × (b : ℕ) × (x ≡ deletion s a b t) × (a ≤ p) × (p ≤ b)
one_found (deletion s' a' b' t') s p t h = go (eqb s s' && (leb a' p && leb p b')) refl h
  where
    go : (v : Bool) → (eqb s s' && (leb a' p && leb p b')) ≡ v → cond v (Some t') None ≡ Some t → (a : ℕ) × (b : ℕ) × (deletion s' a' b' t' ≡ deletion s a b t) × (a ≤ p) × (p ≤ b)
    go true e k = let q : s' ≡ s = grind (arith, nat_tests) in let u : t' ≡ t = cc in (a', b', cc, grind (arith, nat_tests), grind (arith, nat_tests))
    go false e k = absurd (let z : ◌≡◌ {A = ℕ} 0 1 = cc in omega arith)
one_found (entry s' p' f' c') s p t h = absurd (let z : ◌≡◌ {A = ℕ} 0 1 = cc in omega arith)

one_at : (x : Mutation) (s p f : ℕ) (c : Version) → (one x).cell s p f ≡ Some c → x ≡ entry s p f c
one_at (deletion s' a' b' t') s p f c h = absurd (let z : ◌≡◌ {A = ℕ} 0 1 = cc in omega arith)
one_at (entry s' p' f' c') s p f c h = go (eqb s s' && (eqb p p' && eqb f f')) refl h
  where
    go : (v : Bool) → (eqb s s' && (eqb p p' && eqb f f')) ≡ v → cond v (Some c') None ≡ Some c → entry s' p' f' c' ≡ entry s p f c
    go true e k = let q : s' ≡ s = grind (arith, nat_tests) in let q' : p' ≡ p = grind (arith, nat_tests) in let q'' : f' ≡ f = grind (arith, nat_tests) in let u : c' ≡ c = cc in cc
    go false e k = absurd (let z : ◌≡◌ {A = ℕ} 0 1 = cc in omega arith)

-- a deletion over a plot
abbrev pub Over : List Mutation → ℕ → ℕ → Tombstone → Type 0
Over xs s p t = (a : ℕ) × (b : ℕ) × Memᴰ (deletion s a b t) xs × (a ≤ p) × (p ≤ b)

pub cover_found : (xs : List Mutation) (s p : ℕ) (t : Tombstone) → (content_of xs).cover s p ≡ Some t → Over xs s p t
cover_found [] s p t h = absurd (let z : ◌≡◌ {A = ℕ} 0 1 = cc in omega arith)
cover_found (x ∷ xs) s p t h = go (later_laws.either ((one x).cover s p) ((content_of xs).cover s p)) (cover_found xs s p t)
  where
    go : (later ((one x).cover s p) ((content_of xs).cover s p) ≡ (one x).cover s p) ⊎ (later ((one x).cover s p) ((content_of xs).cover s p) ≡ (content_of xs).cover s p) → ((content_of xs).cover s p ≡ Some t → Over xs s p t) → Over (x ∷ xs) s p t
    go (inl e) ih = let (a, b, is, l, r) = one_found x s p t (sym e ∙ h) in (a, b, Memᴰ.head (sym is), l, r)
    go (inr e) ih = let (a, b, m, l, r) = ih (sym e ∙ h) in (a, b, Memᴰ.tail m, l, r)

through_from : (t : Option Tombstone) (x : Option Version) (c : Version) → uncovered t x ≡ Some c → x ≡ Some c
through_from t None c h = h
through_from t (Some d) c h = go (covered t d.stamp) h
  where
    go : (v : Bool) → cond v None (Some d) ≡ Some c → Some d ≡ Some c
    go false k = k
    go true k = absurd (let z : ◌≡◌ {A = ℕ} 0 1 = cc in omega arith)

pub cell_found : (xs : List Mutation) (s p f : ℕ) (c : Version) → (content_of xs).cell s p f ≡ Some c → Memᴰ (entry s p f c) xs
cell_found [] s p f c h = absurd (let z : ◌≡◌ {A = ℕ} 0 1 = cc in omega arith)
cell_found (x ∷ xs) s p f c h = go (greater_laws.either ((one x).cell s p f) ((content_of xs).cell s p f)) (cell_found xs s p f c)
  where
    best : greater ((one x).cell s p f) ((content_of xs).cell s p f) ≡ Some c
    best = through_from ((content_of (x ∷ xs)).cover s p) (greater ((one x).cell s p f) ((content_of xs).cell s p f)) c h

    go : (greater ((one x).cell s p f) ((content_of xs).cell s p f) ≡ (one x).cell s p f) ⊎ (greater ((one x).cell s p f) ((content_of xs).cell s p f) ≡ (content_of xs).cell s p f) → ((content_of xs).cell s p f ≡ Some c → Memᴰ (entry s p f c) xs) → Memᴰ (entry s p f c) (x ∷ xs)
    go (inl e) ih = Memᴰ.head (sym (one_at x s p f c (sym e ∙ best)))
    go (inr e) ih = Memᴰ.tail (ih (sym e ∙ best))

-- ---- two of a run

pub either_before : (xs : List Mutation) (x y : Mutation) → Pairs xs → Memᴰ x xs → Memᴰ y xs → (x ≡ y) ⊎ (Before x y ⊎ Before y x)
either_before [] x y h m n = elim m [ ]
either_before (z ∷ zs) x y h m n = go (Memᴰ.cases_cons m) (Memᴰ.cases_cons n) (either_before zs x y h.1)
  where
    go : (x ≡ z) ⊎ Memᴰ x zs → (y ≡ z) ⊎ Memᴰ y zs → (Memᴰ x zs → Memᴰ y zs → (x ≡ y) ⊎ (Before x y ⊎ Before y x)) → (x ≡ y) ⊎ (Before x y ⊎ Before y x)
    go (inl e) (inl f) ih = inl (e ∙ sym f)
    go (inl e) (inr k) ih = inr (inl (subst (λ w. Before w y) (sym e) (all_member (Before z) zs h.0 k)))
    go (inr k) (inl f) ih = inr (inr (subst (λ w. Before w x) (sym f) (all_member (Before z) zs h.0 k)))
    go (inr k) (inr j) ih = ih k j

-- the deletions of a run are its spans
pub run_span : (xs : List Mutation) (s a b : ℕ) (t : Tombstone) → Pairs xs → Memᴰ (deletion s a b t) xs → a ≤ b → Span (content_of xs) s a b t
run_span xs s a b t h m l = record {
  ordered = l;
  same = λ p i j. run_cover xs s a b p t h m i j;
  starts = λ p e k. let (a', b', n, i, j) = cover_found xs s p t k in starts p e a' b' i j (either_before xs (deletion s a b t) (deletion s a' b' t) h m n);
  ends = λ k. let (a', b', n, i, j) = cover_found xs s (b + 1) t k in ends a' b' i j (either_before xs (deletion s a b t) (deletion s a' b' t) h m n);
}
  where
    starts : (p : ℕ) → p + 1 ≡ a → (a' b' : ℕ) → a' ≤ p → p ≤ b' → (deletion s a b t ≡ deletion s a' b' t) ⊎ (Before (deletion s a b t) (deletion s a' b' t) ⊎ Before (deletion s a' b' t) (deletion s a b t)) → ⊥
    starts p e a' b' i j (inl k) = let q : a ≡ a' = cc in omega arith
    starts p e a' b' i j (inr (inl k)) = omega (arith, (k.1 refl).0)
    starts p e a' b' i j (inr (inr k)) = let q = (k.1 refl).0 in (k.1 refl).1 (omega arith) refl

    ends : (a' b' : ℕ) → a' ≤ b + 1 → b + 1 ≤ b' → (deletion s a b t ≡ deletion s a' b' t) ⊎ (Before (deletion s a b t) (deletion s a' b' t) ⊎ Before (deletion s a' b' t) (deletion s a b t)) → ⊥
    ends a' b' i j (inl k) = let q : b ≡ b' = cc in omega arith
    ends a' b' i j (inr (inl k)) = let q = (k.1 refl).0 in (k.1 refl).1 (omega arith) refl
    ends a' b' i j (inr (inr k)) = omega (arith, (k.1 refl).0)

-- two spans over one plot are one
no_less : (C : Content) (s a b a' b' p : ℕ) (t : Tombstone) → Span C s a b t → Span C s a' b' t → a ≤ p → p ≤ b → a' ≤ p → p ≤ b' → (a' < a → ⊥) × (b < b' → ⊥)
no_less C s a b a' b' p t h k l r l' r' = (
  (λ q. h.starts (a - 1) (omega arith) (k.same (a - 1) (omega arith) (omega arith))),
  (λ q. h.ends (k.same (b + 1) (omega arith) (omega arith))),
)

pub one_span : (C : Content) (s a b a' b' p : ℕ) (t : Tombstone) → Span C s a b t → Span C s a' b' t → a ≤ p → p ≤ b → a' ≤ p → p ≤ b' → (a ≡ a') × (b ≡ b')
one_span C s a b a' b' p t h k l r l' r' =
    let u = no_less C s a b a' b' p t h k l r l' r' in
    let v = no_less C s a' b' a b p t k h l' r' l r in
    (grind (arith, u.0, v.0), grind (arith, u.1, v.1))

-- ---- a run has just the records of its content

pub member_held : (xs : List Mutation) (r : Mutation) → Pairs xs → AllByRecursion Proper xs → Memᴰ r xs → Held (content_of xs) r
member_held xs (deletion s a b t) h g m = run_span xs s a b t h m (all_member Proper xs g m)
member_held xs (entry s p f c) h g m = run_cell xs s p f c h m

pub held_member : (xs : List Mutation) (r : Mutation) → Pairs xs → AllByRecursion Proper xs → Held (content_of xs) r → Memᴰ r xs
held_member xs (entry s p f c) h g k = cell_found xs s p f c k
held_member xs (deletion s a b t) h g k =
    let (a', b', m, i, j) = cover_found xs s a t (k.same a (omega arith) k.ordered) in
    let is = one_span (content_of xs) s a b a' b' a t k (run_span xs s a' b' t h m (all_member Proper xs g m)) (omega arith) k.ordered i j in
    subst (λ w. Memᴰ w xs) (λ n. deletion s (sym is.0 n) (sym is.1 n) t) m

never_itself : (x y : Mutation) → Ascends x y → Ascends y x → ⊥
never_itself x y h k = let e : ◌≡◌ {A = Bool} false true = sym k ∙ upto_total (key_of y) (key_of x) h in let z : ◌≡◌ {A = ℕ} 0 1 = cc in omega arith

-- two runs with the same records are one
pub same_runs : (xs ys : List Mutation) → Pairs xs → Pairs ys → ((r : Mutation) → Memᴰ r xs → Memᴰ r ys) → ((r : Mutation) → Memᴰ r ys → Memᴰ r xs) → xs ≡ ys
same_runs [] [] h k m n = refl
same_runs [] (y ∷ ys) h k m n = elim (n y (Memᴰ.head refl)) [ ]
same_runs (x ∷ xs) [] h k m n = elim (m x (Memᴰ.head refl)) [ ]
same_runs (x ∷ xs) (y ∷ ys) h k m n = go first (same_runs xs ys h.1 k.1)
  where
    heads : (x ≡ y) ⊎ Memᴰ x ys → (y ≡ x) ⊎ Memᴰ y xs → x ≡ y
    heads (inl e) q = e
    heads (inr i) (inl e) = sym e
    heads (inr i) (inr j) = absurd (never_itself x y (all_member (Before x) xs h.0 j).0 (all_member (Before y) ys k.0 i).0)

    first : x ≡ y
    first = heads (Memᴰ.cases_cons (m x (Memᴰ.head refl))) (Memᴰ.cases_cons (n y (Memᴰ.head refl)))

    rest : {u v : Mutation} {us vs : List Mutation} → u ≡ v → AllByRecursion (Before u) us → (r : Mutation) → Memᴰ r us → (r ≡ v) ⊎ Memᴰ r vs → Memᴰ r vs
    rest {u} {us = us} e q r i (inl f) = let b : Before r r = subst (λ w. Before w r) (e ∙ sym f) (all_member (Before u) us q i) in absurd (never_itself r r b.0 b.0)
    rest e q r i (inr j) = j

    go : x ≡ y → (((r : Mutation) → Memᴰ r xs → Memᴰ r ys) → ((r : Mutation) → Memᴰ r ys → Memᴰ r xs) → xs ≡ ys) → x ∷ xs ≡ y ∷ ys
    go e ih =
        let tails : xs ≡ ys = ih (λ r i. rest e h.0 r i (Memᴰ.cases_cons (m r (Memᴰ.tail i)))) (λ r i. rest (sym e) k.0 r i (Memᴰ.cases_cons (n r (Memᴰ.tail i)))) in
        λ i. e i ∷ tails i

pub one_run : (xs ys : List Mutation) → AllByRecursion Proper xs → AllByRecursion Proper ys → Pairs xs → Pairs ys → content_of xs ≡ content_of ys → xs ≡ ys
one_run xs ys g g' h h' e =
    same_runs xs ys h h'
    (λ r m. held_member ys r h' g' (subst (λ C. Held C r) e (member_held xs r h g m)))
    (λ r m. held_member xs r h g (subst (λ C. Held C r) (sym e) (member_held ys r h' g' m)))
