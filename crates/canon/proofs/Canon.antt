-- A run is the spans and the cells of its content, in order.
use Rattle.std.proofs.Common.{◌≡◌, ◌+◌, ◌<◌, ◌≤◌, ◌⊎◌, List, [], ◌∷◌, Some, sym, refl, ap, ◌∙◌, subst, inl, inr, arith}
use mathlib.Core.List.{Memᴰ}
use Rattle.std.proofs.lemmas.Bool.Decides.{nat_tests}
use Rattle.std.proofs.lemmas.Bool.{cases_lt}
use Rattle.std.specs.List.{AllByRecursion}
use Rattle.records.specs.Content.{Content, Mutation, deletion, entry, content_of, uncovered, Settled}
use Rattle.canon.specs.Spans.{Span, Held, Canonical}
use Rattle.canon.proofs.Pairs.{Ascends, Apart, Before, Pairs, Ascending, Proper, ascending-says, ascending_holds}
use Rattle.reconcile.proofs.Places.{is_through}
use Rattle.reconcile.proofs.Joins.{content_of_settled}
use Rattle.canon.proofs.Runs.{member_held, held_member, one_span}

-- ---- a run is canonical

run_ascends : (xs : List Mutation) → Pairs xs → Ascending xs
run_ascends [] h = tt
run_ascends (x ∷ xs) h = (go xs h.0, run_ascends xs h.1)
  where
    go : (ys : List Mutation) → AllByRecursion (Before x) ys → AllByRecursion (Ascends x) ys
    go [] a = tt
    go (y ∷ ys) a = (a.0.0, go ys a.1)

pub run_canonical : (xs : List Mutation) → AllByRecursion Proper xs → Pairs xs → Canonical xs
run_canonical xs g h = record { in_order = ascending_holds xs (run_ascends xs h); held = λ r m. member_held xs r h g m; whole = λ r k. held_member xs r h g k }

held_apart : (C : Content) (x y : Mutation) → Settled C → Ascends x y → Held C x → Held C y → Apart x y
held_apart C (entry s p f c) y st h k l = tt
held_apart C (deletion s a b t) (entry s' p f c) st h k l =
    λ e i j.
    let over : C.cover s' p ≡ Some t = subst (λ w. C.cover w p ≡ Some t) e (k.same p i j) in
    let low = is_through (Some t) c (ap (λ o. uncovered o (Some c)) (sym over) ∙ ap (uncovered (C.cover s' p)) (sym l) ∙ st s' p f ∙ l) in
    omega arith
held_apart C (deletion s a b t) (deletion s' a' b' t') st h k l =
    λ e. (go e (cases_lt b a'), λ touch same. k.ends (subst (λ w. C.cover w (b + 1) ≡ Some t) (sym e) (subst (λ w. C.cover s' w ≡ Some t) (sym touch) (l.same a' (omega arith) l.ordered ∙ ap Some (sym same)))))
  where
    go : s ≡ s' → (b < a') ⊎ (a' ≤ b) → b < a'
    go e (inl i) = i
    go e (inr i) =
        let asc = h in
        let below : a < a' = grind (arith, nat_tests) in
        let here : C.cover s a' ≡ Some t = k.same a' (omega arith) i in
        let there : C.cover s a' ≡ Some t' = subst (λ w. C.cover w a' ≡ Some t') (sym e) (l.same a' (omega arith) l.ordered) in
        let same : t' ≡ t = cc in
        let l' : Span C s a' b' t = subst (λ w. Span C w a' b' t) (sym e) (subst (λ w. Span C s' a' b' w) same l) in
        let is = one_span C s a b a' b' a' t k l' (omega arith) i (omega arith) l.ordered in
        omega (arith, is.0)

-- records of a settled content, in order, are a run
pub held_run : (C : Content) → Settled C → (ys : List Mutation) → Ascending ys → ((r : Mutation) → Memᴰ r ys → Held C r) → Pairs ys
held_run C st [] a m = tt
held_run C st (y ∷ ys) a m = (beside y ys (m y (Memᴰ.head refl)) a.0 (λ r i. m r (Memᴰ.tail i)), held_run C st ys a.1 (λ r i. m r (Memᴰ.tail i)))
  where
    beside : (x : Mutation) (zs : List Mutation) → Held C x → AllByRecursion (Ascends x) zs → ((r : Mutation) → Memᴰ r zs → Held C r) → AllByRecursion (Before x) zs
    beside x [] k a m = tt
    beside x (z ∷ zs) k a m = ((a.0, held_apart C x z st a.0 k (m z (Memᴰ.head refl))), beside x zs k a.1 (λ r i. m r (Memᴰ.tail i)))

pub canonical_run : (xs : List Mutation) → Canonical xs → Pairs xs
canonical_run xs h = held_run (content_of xs) (content_of_settled xs) xs (ascending-says xs h.in_order) h.held
