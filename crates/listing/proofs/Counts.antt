-- The plots and the sections of records, one after another, and what is counted of them.
use Rattle.std.proofs.Common.{◌≡◌, ℕ, zero, suc, ◌+◌, ◌-◌, ◌<◌, ◌≤◌, min, Bool, true, false, cond, not, ◌&&◌, ◌||◌, eqb, ltb, List, [], ◌∷◌, ◌++◌, map, filter, filter_map, length, Some, None, Option, IfSome, subst, sym, refl, ap, ◌∙◌, arith}
use Rattle.std.specs.declared.ops.RangeInclusive.{RangeInclusive}
use Rattle.std.specs.List.{fold, reduce, cons_option, count_by, list_any, range_with_len}
use Rattle.std.specs.Range.{range_inclusive_start, range_inclusive_end, range_inclusive_exhausted, range_inclusive_len, range_inclusive_left, range_inclusive_steps}
use Rattle.std.proofs.lemmas.Grind.{common_steps}
use Rattle.std.proofs.lemmas.Bool.Decides.{nat_tests}
use Rattle.std.proofs.lemmas.Iterator.{YieldsList}
use Rattle.std.proofs.lemmas.Iterator.Consumers.{YieldsList-from_shown}
use Rattle.std.proofs.lemmas.List.{length-append}
use Rattle.std.proofs.lemmas.List.Sums.{count_by-le-length, sum_by-append}
use Rattle.std.proofs.lemmas.Simd.{map-map}
use Rattle.std.proofs.lemmas.List.Folds.{list_any-append}
use Rattle.records.specs.declared.place.Place.{Place}
use Rattle.records.specs.declared.record.Record.{Record}
use Rattle.records.specs.declared.record.Record.TheVariants as which
use Rattle.records.specs.Content.{Content, Mutation, deletion, entry, content_of, uncovered, is_live}
use Rattle.records.specs.Meaning.{says}
use Rattle.records.specs.Listed.{passing, listed, free}
use Rattle.records.proofs.Passing.{passing_none, passing_next, passing_skip, passing-empty, passing_few}
use Rattle.listing.specs.Fold.{written, section_of, plot_in, among, in_section, in_plot}
use Rattle.listing.specs.Count.{plots_of, IsNext}
use Rattle.listing.proofs.Folds.{cell_is}

-- ---- the fields of a plot

abbrev steps : RangeInclusive ℕ → Option ℕ → RangeInclusive ℕ → Type 0
steps = range_inclusive_steps (λ x y. y - x) (λ x y. y ≡ x + 1)

abbrev left : RangeInclusive ℕ → ℕ
left = range_inclusive_left (λ x y. y - x)

-- a range gives its numbers
pub range_gives : (s : RangeInclusive ℕ) (a n : ℕ) → range_inclusive_start s ≡ a → left s ≡ n → YieldsList steps (λ x. x) s (range_with_len a n)
range_gives s a n e h =
    subst (λ (xs : List ℕ). YieldsList steps (λ x. x) s xs) (λ i. range_with_len (e i) (h i))
    (YieldsList-from_shown steps (λ x. x) (λ r. range_with_len (range_inclusive_start r) (left r))
    (λ r t k. rw (k.1.0) refl)
    (λ r x t k. let m : left r ≡ suc (left t) = omega (arith, k.1.1) in
    ap (range_with_len (range_inclusive_start r)) m ∙ ap (λ y. y ∷ range_with_len (range_inclusive_start r + 1) (left t)) (sym k.1.0) ∙ ap (λ xs. x ∷ xs) (rest (range_inclusive_start r) t (range_inclusive_exhausted t) refl k.1.2))
    s)
  where
    rest : (b : ℕ) (t : RangeInclusive ℕ) (z : Bool) → range_inclusive_exhausted t ≡ z → (range_inclusive_exhausted t ≡ false → range_inclusive_start t ≡ b + 1) → range_with_len (b + 1) (left t) ≡ range_with_len (range_inclusive_start t) (left t)
    rest b t true z k = let m : left t ≡ 0 = ap (range_inclusive_len (λ x y. y - x) (range_inclusive_start t) (range_inclusive_end t)) z in rw m refl
    rest b t false z k = ap (λ x. range_with_len x (left t)) (sym (k z))

-- some number up to n passes a test
pub any_passing : (test : ℕ → Bool) (n : ℕ) → list_any test (range_with_len 1 n) ≡ ltb 0 (length (passing test n))
unfolding passing
any_passing test zero = refl
any_passing test (suc n) =
    ap (list_any test) (more 1 n (suc n) (omega arith))
    ∙ list_any-append test (range_with_len 1 n) (suc n ∷ [])
    ∙ ap (λ b. b || (test (suc n) || false)) (any_passing test n)
    ∙ one (test (suc n)) (passing test n)
  where
    more : (a n m : ℕ) → a + n ≡ m → range_with_len a (suc n) ≡ range_with_len a n ++ (m ∷ [])
    more a zero m e = let k : a ≡ m = omega arith in ap (λ x. x ∷ []) k
    more a (suc n) m e = ap (λ xs. a ∷ xs) (more (a + 1) n m (omega arith))

    one : (b : Bool) (xs : List ℕ) → (ltb 0 (length xs) || (b || false)) ≡ ltb 0 (length (xs ++ cond b (suc n ∷ []) []))
    one true xs = let l = length-append xs (suc n ∷ []) in grind (arith, nat_tests)
    one false xs = let l = length-append {A = ℕ} xs [] in grind (arith, nat_tests)

-- ---- the next of some numbers

-- k lies before r, if there is one
abbrev Ahead : ℕ → Option ℕ → Type 0
Ahead k r = IfSome r (λ q. k < q)

none_below : (k a : ℕ) (xs : List ℕ) → k < fold min a xs → (k < a) × (list_any (λ x. eqb x k) xs ≡ false)
none_below k a [] h = (h, refl)
none_below k a (x ∷ xs) h =
    let i = none_below k (min a x) xs h in
    let l : k < min a x = i.0 in
    let e : list_any (λ y. eqb y k) xs ≡ false = i.1 in
    (omega arith, grind (arith, nat_tests))

least_bare : (k : ℕ) (xs : List ℕ) → Ahead k (reduce min xs) → list_any (λ x. eqb x k) xs ≡ false
least_bare k [] h = refl
least_bare k (x ∷ xs) h =
    let i = none_below k x xs h in
    let l : k < x = i.0 in
    let e : list_any (λ y. eqb y k) xs ≡ false = i.1 in
    grind (arith, nat_tests)

reached : (q a : ℕ) (xs : List ℕ) → fold min a xs ≡ q → (eqb a q || list_any (λ x. eqb x q) xs) ≡ true
reached q a [] h = grind (arith, nat_tests)
reached q a (x ∷ xs) h = let i = reached q (min a x) xs h in grind (arith, nat_tests)

least_found : (q : ℕ) (xs : List ℕ) → reduce min xs ≡ Some q → list_any (λ x. eqb x q) xs ≡ true
least_found q [] h = cc
least_found q (x ∷ xs) h = let e : fold min x xs ≡ q = cc in reached q x xs e

-- what is found of the numbers above `after`
above_is : (after k : ℕ) (xs : List ℕ) → list_any (λ x. eqb x k) (filter (ltb after) xs) ≡ (ltb after k && list_any (λ x. eqb x k) xs)
above_is after k [] = grind (arith, nat_tests)
above_is after k (x ∷ xs) = go (ltb after x) refl (above_is after k xs)
  where
    go : (b : Bool) → ltb after x ≡ b → list_any (λ y. eqb y k) (filter (ltb after) xs) ≡ (ltb after k && list_any (λ y. eqb y k) xs) →
        list_any (λ y. eqb y k) (cond b (x ∷ filter (ltb after) xs) (filter (ltb after) xs)) ≡ (ltb after k && (eqb x k || list_any (λ y. eqb y k) xs))
    go true e i = grind (arith, nat_tests)
    go false e i = grind (arith, nat_tests)

module _ (xs : List ℕ) (last : ℕ) (low : (k : ℕ) → among xs k ≡ true → k ≤ last) where
  bare : (after k : ℕ) → after < k → Ahead k (reduce min (filter (ltb after) xs)) → among xs k ≡ false
  bare after k l h = let n = least_bare k (filter (ltb after) xs) h in let a = above_is after k xs in grind (arith, nat_tests)

  next_is : (after : ℕ) (r : Option ℕ) → r ≡ reduce min (filter (ltb after) xs) → IsNext (among xs) after last r
  next_is after None e = λ l. passing_skip (among xs) after last l (λ k a b. bare after k a (subst (Ahead k) e tt))
  next_is after (Some q) e =
      let t = least_found q (filter (ltb after) xs) (sym e) in
      let a = above_is after q xs in
      let l : after < q = grind (arith, nat_tests) in
      let f : among xs q ≡ true = grind (arith, nat_tests) in
      (l, low q f, passing_next (among xs) after q l (λ k m g. bare after k m (subst (Ahead k) e g)) ∙ ap (λ b. passing (among xs) after ++ cond b (q ∷ []) []) f)

-- ---- the sections

section_low : (s : ℕ) (rs : List Record) → in_section (map says rs) s ≡ true → s ≤ 9999
section_low s [] h = cc
section_low s (which.Deletion d ∷ rs) h = let i = section_low s rs in let l = d.section_high in grind (arith, nat_tests, i)
section_low s (which.Cell c ∷ rs) h = let i = section_low s rs in let l = c.section_high in grind (arith, nat_tests, i)

pub next_section_is : (rs : List Record) (after : ℕ) (r : Option ℕ) → r ≡ reduce min (filter (ltb after) (map (λ x. section_of (says x)) rs)) → IsNext (in_section (map says rs)) after 9999 r
next_section_is rs after r e = next_is (map section_of (map says rs)) 9999 (λ s. section_low s rs) after r (e ∙ ap (λ xs. reduce min (filter (ltb after) xs)) (sym (map-map section_of says rs)))

-- ---- the plots of a section

plot_low : (s p : ℕ) (rs : List Record) → in_plot (map says rs) s p ≡ true → p ≤ 999999
plot_low s p [] h = cc
plot_low s p (which.Deletion d ∷ rs) h = plot_low s p rs h
plot_low s p (which.Cell c ∷ rs) h = go (eqb c.place.plot.section s) h (plot_low s p rs)
  where
    go : (b : Bool) → among (cons_option (cond b (Some c.place.plot.number) None) (filter_map (plot_in s) (map says rs))) p ≡ true → (in_plot (map says rs) s p ≡ true → p ≤ 999999) → p ≤ 999999
    go true h i = let n = c.plot_high in grind (arith, nat_tests, i)
    go false h i = i h

plots_are : (s : ℕ) (rs : List Record) → filter_map (λ r. plot_in s (says r)) rs ≡ filter_map (plot_in s) (map says rs)
plots_are s [] = refl
plots_are s (r ∷ rs) = ap (cons_option (plot_in s (says r))) (plots_are s rs)

pub next_plot_is : (rs : List Record) (s after : ℕ) (r : Option ℕ) → r ≡ reduce min (filter (ltb after) (filter_map (λ x. plot_in s (says x)) rs)) → IsNext (in_plot (map says rs) s) after 999999 r
next_plot_is rs s after r e = next_is (filter_map (plot_in s) (map says rs)) 999999 (λ p. plot_low s p rs) after r (e ∙ ap (λ xs. reduce min (filter (ltb after) xs)) (plots_are s rs))

-- ---- what is counted of them

-- a place by its numbers
abbrev place_at : ℕ → ℕ → ℕ → Place
place_at s p f = record { plot = record { section = s; number = p }; field = f }

plot_bare : (s p f : ℕ) (ms : List Mutation) → in_plot ms s p ≡ false → written ms (place_at s p f) ≡ None
plot_bare s p f [] h = refl
plot_bare s p f (deletion s' a b t ∷ ms) h = plot_bare s p f ms h
plot_bare s p f (entry s' p' f' c ∷ ms) h = go (eqb s' s) refl h (plot_bare s p f ms)
  where
    go : (b : Bool) → eqb s' s ≡ b → among (cons_option (cond b (Some p') None) (filter_map (plot_in s) ms)) p ≡ false →
        (in_plot ms s p ≡ false → written ms (place_at s p f) ≡ None) → written (entry s' p' f' c ∷ ms) (place_at s p f) ≡ None
    go true e h i =
        let n : (eqb s s' && (eqb p p' && eqb f f')) ≡ false = grind (arith, nat_tests) in
        let t : in_plot ms s p ≡ false = grind (arith, nat_tests) in
        rw n (i t)
    go false e h i =
        let n : (eqb s s' && (eqb p p' && eqb f f')) ≡ false = grind (arith, nat_tests) in
        rw n (i h)

-- a plot without cells is not listed, nor free
pub bare_listed : (c : Content) (s p : ℕ) → ((f : ℕ) → c.cell s p f ≡ None) → listed c s p ≡ false
bare_listed c s p h = ap (λ xs. ltb 0 (length xs)) (passing-empty (λ f. is_live (c.cell s p f)) 32 (λ f a b. ap is_live (h f)))

pub bare_free : (c : Content) (s p : ℕ) → ((f : ℕ) → c.cell s p f ≡ None) → free c s p ≡ false
bare_free c s p h = ap (λ b. b && not (is_live (c.cell s p 1))) (bare_listed c s p h)

-- a plot with no cell written has none
unwritten : (ms : List Mutation) (s p : ℕ) → in_plot ms s p ≡ false → (f : ℕ) → (content_of ms).cell s p f ≡ None
unwritten ms s p h f = cell_is ms (place_at s p f) ∙ ap (uncovered ((content_of ms).cover s p)) (plot_bare s p f ms h)

-- of the numbers that pass one test those that pass another, which only such numbers pass
counted : (most test : ℕ → Bool) → ((k : ℕ) → most k ≡ false → test k ≡ false) → (n : ℕ) → count_by test (passing most n) ≡ length (passing test n)
unfolding passing
counted most test fails zero = refl
counted most test fails (suc n) =
    sum_by-append (λ x. cond (test x) 1 0) (passing most n) (cond (most (suc n)) (suc n ∷ []) [])
    ∙ go (most (suc n)) (test (suc n)) refl refl (counted most test fails n)
  where
    go : (b t : Bool) → most (suc n) ≡ b → test (suc n) ≡ t → count_by test (passing most n) ≡ length (passing test n) →
        count_by test (passing most n) + count_by test (cond b (suc n ∷ []) []) ≡ length (passing test n ++ cond t (suc n ∷ []) [])
    go true true e f h = rw (f, length-append (passing test n) (suc n ∷ [])) (omega arith)
    go true false e f h = rw (f, length-append {A = ℕ} (passing test n) []) (omega arith)
    go false t e f h = let z : t ≡ false = sym f ∙ fails (suc n) e in rw (z, length-append {A = ℕ} (passing test n) []) (omega arith)

pub plots_counted : (ms : List Mutation) (s m n f : ℕ) → passing (in_plot ms s) 999999 ≡ passing (in_plot ms s) m →
    n ≡ count_by (listed (content_of ms) s) (passing (in_plot ms s) m) → f ≡ count_by (free (content_of ms) s) (passing (in_plot ms s) m) →
    record { listed = n; free = f } ≡ plots_of (content_of ms) s
plots_counted ms s m n f e l g = λ i. record {
  listed = (l ∙ ap (count_by (listed (content_of ms) s)) (sym e) ∙ counted (in_plot ms s) (listed (content_of ms) s) (λ p h. bare_listed (content_of ms) s p (unwritten ms s p h)) 999999) i;
  free = (g ∙ ap (count_by (free (content_of ms) s)) (sym e) ∙ counted (in_plot ms s) (free (content_of ms) s) (λ p h. bare_free (content_of ms) s p (unwritten ms s p h)) 999999) i;
}

pub count_low : (most test : ℕ → Bool) (n : ℕ) → count_by test (passing most n) ≤ n
count_low most test n = omega (arith, count_by-le-length test (passing most n), passing_few most n)

pub ruleset counting = (common_steps, passing_none, count_low)
