-- The run of a sound content is a run of it, and what a test keeps of it is a run.
use Rattle.std.proofs.Common.{◌≡◌, ℕ, zero, suc, ◌+◌, ◌-◌, ◌/◌, ◌%◌, ◌<◌, ◌≤◌, Bool, true, false, cond, ◌⊎◌, List, [], Some, None, Option, sym, refl, ap, ◌∙◌, subst, inl, inr, arith}
use mathlib.Core.List.{Memᴰ}
use Rattle.std.specs.List.{AllByRecursion}
use Rattle.std.proofs.lemmas.Bool.Decides.{nat_tests}
use Rattle.std.proofs.lemmas.Bool.{cases_lt}
use Rattle.std.proofs.ByRecursion.{All-append, All-weaker}
use Rattle.records.specs.declared.tombstone.Tombstone.{Tombstone}
use Rattle.records.specs.Ranges.{in_range}
use Rattle.records.specs.Content.{Version, Content, Mutation, deletion, entry, content_of}
use Rattle.canon.specs.Run.{RunOf, InRange}
use Rattle.canon.specs.Spans.{Span, Held, same_cover, stretch, span_of, cell_of, spot, span_at, cell_at, spans_from, cells_from, section_run, run_from, run_of, Sound}
use Rattle.reconcile.proofs.Joins.{same_content, content_of_settled}
use Rattle.canon.proofs.Pairs.{Ascends, Pairs, Ascending, all-says, all_holds, run_holds}
use Rattle.canon.proofs.Runs.{Over, all_member, run_cover, run_cell, cover_found, cell_found}
use Rattle.canon.proofs.Canon.{held_run}
use Rattle.canon.proofs.Joined.{all_joined, member_left, member_right, member_joined, ascending-append, ascending_joined}
use Rattle.canon.proofs.Steps.{Fresh, Reaches, stretch_reaches, same_cover_refl, cover_same, first_here, at_place}

pub some_none : {X : Type 0} {o : Option X} (x : X) → o ≡ Some x → o ≡ None → ⊥
some_none {o = o} x e n = let z : ◌≡◌ {A = ℕ} 0 1 = cc in omega arith

pub true_false : {b : Bool} → b ≡ true → b ≡ false → ⊥
true_false e n = let z : ◌≡◌ {A = ℕ} 0 1 = cc in omega arith

pub none_if : {X : Type 0} (o : Option X) → ((x : X) → o ≡ Some x → ⊥) → o ≡ None
none_if None h = refl
none_if (Some x) h = absurd (h x refl)

-- ---- where a record stands

abbrev InSection : ℕ → Mutation → Type 0
InSection s (deletion s' a b t) = s' ≡ s
InSection s (entry s' p f c) = s' ≡ s

abbrev AtPlot : ℕ → ℕ → Mutation → Type 0
AtPlot s p (deletion s' a b t) = (s' ≡ s) × (a ≡ p)
AtPlot s p (entry s' p' f c) = ⊥

abbrev AtPlace : ℕ → ℕ → Mutation → Type 0
AtPlace s k (deletion s' a b t) = ⊥
AtPlace s k (entry s' p f c) = (s' ≡ s) × (spot p f ≡ k) × (f < 256)

by_section : (j k : ℕ) (x y : Mutation) → j < k → InSection j x → InSection k y → Ascends x y
by_section j k (deletion s a b t) (deletion s' a' b' t') l h i = grind (arith, nat_tests)
by_section j k (deletion s a b t) (entry s' p' f' c') l h i = grind (arith, nat_tests)
by_section j k (entry s p f c) (deletion s' a' b' t') l h i = grind (arith, nat_tests)
by_section j k (entry s p f c) (entry s' p' f' c') l h i = grind (arith, nat_tests)

by_plot : (s j k : ℕ) (x y : Mutation) → j < k → AtPlot s j x → AtPlot s k y → Ascends x y
by_plot s j k (deletion s' a b t) (deletion s'' a' b' t') l h i = grind (arith, nat_tests)
by_plot s j k (deletion s' a b t) (entry s'' p f c) l h i = absurd i
by_plot s j k (entry s' p f c) y l h i = absurd h

by_place : (s j k : ℕ) (x y : Mutation) → j < k → AtPlace s j x → AtPlace s k y → Ascends x y
by_place s j k (deletion s' a b t) y l h i = absurd h
by_place s j k (entry s' p f c) (deletion s'' a b t) l h i = absurd i
by_place s j k (entry s' p f c) (entry s'' p' f' c') l h i = go (cases_lt p p')
  where
    go : (p < p') ⊎ (p' ≤ p) → Ascends (entry s' p f c) (entry s'' p' f' c')
    go (inl a) = grind (arith, nat_tests)
    go (inr a) = let u : p ≡ p' = omega arith in let v : f < f' = omega arith in grind (arith, nat_tests)

by_class : (s j k : ℕ) (x y : Mutation) → AtPlot s j x → AtPlace s k y → Ascends x y
by_class s j k (deletion s' a b t) (entry s'' p f c) h i = grind (arith, nat_tests)
by_class s j k (deletion s' a b t) (deletion s'' a' b' t') h i = absurd i
by_class s j k (entry s' p f c) y h i = absurd h

plot_section : (s p : ℕ) (r : Mutation) → AtPlot s p r → InSection s r
plot_section s p (deletion s' a b t) h = h.0
plot_section s p (entry s' p' f c) h = absurd h

place_section : (s k : ℕ) (r : Mutation) → AtPlace s k r → InSection s r
place_section s k (deletion s' a b t) h = absurd h
place_section s k (entry s' p f c) h = h.0

module _ (C : Content) where
  -- ---- in order

  span_at_lem : (s p : ℕ) → AllByRecursion (AtPlot s p) (span_at C s p) × Ascending (span_at C s p)
  unfolding span_at
  span_at_lem s p = go (same_cover (C.cover s (p - 1)) (C.cover s p)) (C.cover s p)
    where
      go : (v : Bool) (o : Option Tombstone) → AllByRecursion (AtPlot s p) (cond v [] (span_of s p (stretch (C.cover s) p (999999 - p)) o)) × Ascending (cond v [] (span_of s p (stretch (C.cover s) p (999999 - p)) o))
      go true o = (tt, tt)
      go false None = (tt, tt)
      go false (Some t) = (((refl, refl), tt), (tt, tt))

  cell_at_lem : (s k : ℕ) → AllByRecursion (AtPlace s k) (cell_at C s k) × Ascending (cell_at C s k)
  unfolding cell_at
  cell_at_lem s k = go (C.cell s (k / 256) (k % 256))
    where
      go : (o : Option Version) → AllByRecursion (AtPlace s k) (cell_of s (k / 256) (k % 256) o) × Ascending (cell_of s (k / 256) (k % 256) o)
      go None = (tt, tt)
      go (Some c) = (((refl, omega arith, omega arith), tt), (tt, tt))

  spans_all : (P : Mutation → Type 0) (s p : ℕ) → 1 ≤ p → ((j : ℕ) → 1 ≤ j → j ≤ 999999 → AllByRecursion P (span_at C s j)) → AllByRecursion P (spans_from C s p)
  unfolding spans_from
  spans_all P s p l h = all_joined P (span_at C s) p (1000000 - p) (λ j a b. h j (omega arith) (omega arith))

  cells_all : (P : Mutation → Type 0) (s k : ℕ) → ((j : ℕ) → AllByRecursion P (cell_at C s j)) → AllByRecursion P (cells_from C s k)
  unfolding cells_from
  cells_all P s k h = all_joined P (cell_at C s) k (256000000 - k) (λ j a b. h j)

  spans_ascend : (s p : ℕ) → Ascending (spans_from C s p)
  unfolding spans_from
  spans_ascend s p = ascending_joined (AtPlot s) (by_plot s) (span_at C s) (λ k. (span_at_lem s k).0) (λ k. (span_at_lem s k).1) p (1000000 - p)

  cells_ascend : (s k : ℕ) → Ascending (cells_from C s k)
  unfolding cells_from
  cells_ascend s k = ascending_joined (AtPlace s) (by_place s) (cell_at C s) (λ k. (cell_at_lem s k).0) (λ k. (cell_at_lem s k).1) k (256000000 - k)

  section_at : (s : ℕ) → AllByRecursion (InSection s) (section_run C s)
  section_at s = All-append (InSection s) (spans_from C s 1) (cells_from C s 0)
      (spans_all (InSection s) s 1 (omega arith) (λ j a b. All-weaker (AtPlot s j) (InSection s) (plot_section s j) (span_at C s j) (span_at_lem s j).0))
      (cells_all (InSection s) s 0 (λ j. All-weaker (AtPlace s j) (InSection s) (place_section s j) (cell_at C s j) (cell_at_lem s j).0))

  section_ascends : (s : ℕ) → Ascending (section_run C s)
  section_ascends s = ascending-append (spans_from C s 1) (cells_from C s 0) (spans_ascend s 1) (cells_ascend s 0)
      (spans_all (λ x. AllByRecursion (Ascends x) (cells_from C s 0)) s 1 (omega arith) (λ j a b. All-weaker (AtPlot s j) (λ x. AllByRecursion (Ascends x) (cells_from C s 0))
      (λ x i. cells_all (Ascends x) s 0 (λ k. All-weaker (AtPlace s k) (Ascends x) (λ y. by_class s j k x y i) (cell_at C s k) (cell_at_lem s k).0)) (span_at C s j) (span_at_lem s j).0))

  run_ascends : (s : ℕ) → Ascending (run_from C s)
  unfolding run_from
  run_ascends s = ascending_joined InSection by_section (section_run C) section_at section_ascends s (10000 - s)

  -- ---- just the spans and the cells

  module _ (sound : Sound C) where
    pub cover_plot : (s p : ℕ) (t : Tombstone) → C.cover s p ≡ Some t → (1 ≤ s) × (s ≤ 9999) × (1 ≤ p) × (p ≤ 999999)
    cover_plot s p t e = (
      go (cases_lt s 1) (λ l. sound.sections s p (λ k. omega arith)),
      go (cases_lt 9999 s) (λ l. sound.sections s p (λ k. omega arith)),
      go (cases_lt p 1) (λ l. sound.plots s p (λ k. omega arith)),
      go (cases_lt 999999 p) (λ l. sound.plots s p (λ k. omega arith)),
    )
      where
        go : {m n : ℕ} → (m < n) ⊎ (n ≤ m) → (m < n → C.cover s p ≡ None) → n ≤ m
        go (inl l) h = absurd (some_none t e (h l))
        go (inr l) h = l

    pub cell_place : (s p f : ℕ) (c : Version) → C.cell s p f ≡ Some c → (1 ≤ s) × (s ≤ 9999) × (1 ≤ p) × (p ≤ 999999) × (1 ≤ f) × (f ≤ 32)
    cell_place s p f c e = (
      go (cases_lt s 1) (λ l. sound.cells s p f (λ k. omega arith)),
      go (cases_lt 9999 s) (λ l. sound.cells s p f (λ k. omega arith)),
      go (cases_lt p 1) (λ l. sound.cells s p f (λ k. omega arith)),
      go (cases_lt 999999 p) (λ l. sound.cells s p f (λ k. omega arith)),
      go (cases_lt f 1) (λ l. sound.cells s p f (λ k. omega arith)),
      go (cases_lt 32 f) (λ l. sound.cells s p f (λ k. omega arith)),
    )
      where
        go : {m n : ℕ} → (m < n) ⊎ (n ≤ m) → (m < n → C.cell s p f ≡ None) → n ≤ m
        go (inl l) h = absurd (some_none c e (h l))
        go (inr l) h = l

    span_held : (s p : ℕ) → 1 ≤ p → p ≤ 999999 → AllByRecursion (Held C) (span_at C s p)
    unfolding span_at
    span_held s p low high = go (same_cover (C.cover s (p - 1)) (C.cover s p)) refl (C.cover s p) refl (stretch_reaches (C.cover s) p (999999 - p))
      where
        e : ℕ
        e = stretch (C.cover s) p (999999 - p)

        go : (v : Bool) → same_cover (C.cover s (p - 1)) (C.cover s p) ≡ v → (o : Option Tombstone) → C.cover s p ≡ o → Reaches (C.cover s) p (999999 - p) e → AllByRecursion (Held C) (cond v [] (span_of s p e o))
        go true k o is h = tt
        go false k None is h = tt
        go false k (Some t) is h = (
          record {
            ordered = h.from;
            same = λ q l r. h.alike q l r ∙ is;
            starts = λ q i j. let u : p - 1 ≡ q = omega arith in true_false (ap (λ o. same_cover o (C.cover s p)) (ap (C.cover s) u ∙ j ∙ sym is) ∙ same_cover_refl (C.cover s p)) k;
            ends = λ j. let r = cover_plot s (e + 1) t j in h.ends (omega (arith, h.from)) (j ∙ sym is);
          },
          tt,
        )

    cell_held : (s k : ℕ) → AllByRecursion (Held C) (cell_at C s k)
    unfolding cell_at
    cell_held s k = go (C.cell s (k / 256) (k % 256)) refl
      where
        go : (o : Option Version) → C.cell s (k / 256) (k % 256) ≡ o → AllByRecursion (Held C) (cell_of s (k / 256) (k % 256) o)
        go None e = tt
        go (Some c) e = (e, tt)

    pub run_held : (s : ℕ) → AllByRecursion (Held C) (run_from C s)
    unfolding run_from
    run_held s = all_joined (Held C) (section_run C) s (10000 - s) (λ j a b. All-append (Held C) (spans_from C j 1) (cells_from C j 0) (spans_all (Held C) j 1 (omega arith) (span_held j)) (cells_all (Held C) j 0 (cell_held j)))

    in_run : (s : ℕ) (r : Mutation) → 1 ≤ s → s ≤ 9999 → Memᴰ r (section_run C s) → Memᴰ r (run_of C)
    unfolding run_from
    in_run s r l h m = member_joined (section_run C) 1 (10000 - 1) s l (omega arith) m

    in_spans : (s p : ℕ) (r : Mutation) → 1 ≤ p → p ≤ 999999 → Memᴰ r (span_at C s p) → Memᴰ r (spans_from C s 1)
    unfolding spans_from
    in_spans s p r l h m = member_joined (span_at C s) 1 (1000000 - 1) p l (omega arith) m

    in_cells : (s k : ℕ) (r : Mutation) → k < 256000000 → Memᴰ r (cell_at C s k) → Memᴰ r (cells_from C s 0)
    unfolding cells_from
    in_cells s k r h m = member_joined (cell_at C s) 0 (256000000 - 0) k (omega arith) (omega arith) m

    pub held_in_run : (r : Mutation) → Held C r → Memᴰ r (run_of C)
    held_in_run (entry s p f c) h =
        let i = cell_place s p f c h in
        let m : Memᴰ (entry s p f c) (cell_at C s (spot p f)) = subst (Memᴰ (entry s p f c)) (sym (at_place C s p f (omega arith) ∙ ap (cell_of s p f) h)) (mathlib.Core.List.Memᴰ.head refl) in
        in_run s _ i.0 i.1 (member_right (spans_from C s 1) (cells_from C s 0) (in_cells s (spot p f) _ (omega arith) m))
    held_in_run (deletion s a b t) h =
        let here : C.cover s a ≡ Some t = h.same a (omega arith) h.ordered in
        let i = cover_plot s a t here in
        let j = cover_plot s b t (h.same b h.ordered (omega arith)) in
        let reaches : Reaches (C.cover s) a (999999 - a) b = record { from = h.ordered; to = omega arith; alike = λ p u v. h.same p u v ∙ sym here; ends = λ l k. h.ends (k ∙ here) } in
        let fresh : Fresh C s a = λ u k l. let is : Some u ≡ Some t = sym l ∙ here in h.starts (a - 1) (omega arith) (k ∙ is) in
        let m : Memᴰ (deletion s a b t) (span_at C s a) = subst (Memᴰ (deletion s a b t)) (sym (first_here C s a b (Some t) fresh here reaches)) (mathlib.Core.List.Memᴰ.head refl) in
        in_run s _ i.0 i.1 (member_left (spans_from C s 1) (cells_from C s 0) (in_spans s a _ i.2 i.3 m))

    -- each covered plot has a span
    pub span_over : (s p : ℕ) (t : Tombstone) → C.cover s p ≡ Some t → (a : ℕ) × (b : ℕ) × Span C s a b t × (a ≤ p) × (p ≤ b)
    span_over s p t e = let (a, l, starts, alike) = back p e in let h = stretch_reaches (C.cover s) p (999999 - p) in let i = cover_plot s p t e in (
      a,
      stretch (C.cover s) p (999999 - p),
      record {
        ordered = omega (arith, h.from);
        same = λ q u v. at q u v (cases_lt q p) alike;
        starts = starts;
        ends = λ j. let r = cover_plot s (stretch (C.cover s) p (999999 - p) + 1) t j in h.ends (omega (arith, h.from)) (j ∙ sym e);
      },
      l,
      h.from,
    )
      where
        Back : ℕ → Type 0
        Back p = (a : ℕ) × (a ≤ p) × ((q : ℕ) → q + 1 ≡ a → C.cover s q ≡ Some t → ⊥) × ((q : ℕ) → a ≤ q → q ≤ p → C.cover s q ≡ Some t)

        back : (p : ℕ) → C.cover s p ≡ Some t → Back p
        back zero e = absurd (some_none t e (sound.plots s 0 (λ k. omega arith)))
        back (suc p) e = go (same_cover (C.cover s p) (Some t)) refl (back p)
          where
            go : (v : Bool) → same_cover (C.cover s p) (Some t) ≡ v → (C.cover s p ≡ Some t → Back p) → Back (suc p)
            go true k ih = let (a, l, starts, alike) = ih (cover_same (C.cover s p) (Some t) k) in (a, omega arith, starts, λ q u v. on q u v alike (cases_lt p q))
              where
                on : {a : ℕ} (q : ℕ) → a ≤ q → q ≤ suc p → ((q : ℕ) → a ≤ q → q ≤ p → C.cover s q ≡ Some t) → (p < q) ⊎ (q ≤ p) → C.cover s q ≡ Some t
                on q u v alike (inl w) = ap (C.cover s) (let z : q ≡ suc p = omega arith in z) ∙ e
                on q u v alike (inr w) = alike q u w
            go false k ih = (suc p, omega arith, (λ q i j. true_false (ap (λ o. same_cover o (Some t)) (ap (C.cover s) (let z : p ≡ q = omega arith in z) ∙ j) ∙ same_cover_refl (Some t)) k), λ q u v. ap (C.cover s) (let z : q ≡ suc p = omega arith in z) ∙ e)

        at : {a : ℕ} (q : ℕ) → a ≤ q → q ≤ stretch (C.cover s) p (999999 - p) → (q < p) ⊎ (p ≤ q) → ((q : ℕ) → a ≤ q → q ≤ p → C.cover s q ≡ Some t) → C.cover s q ≡ Some t
        at q u v (inl w) alike = alike q u (omega arith)
        at q u v (inr w) alike = (stretch_reaches (C.cover s) p (999999 - p)).alike q w v ∙ e

    -- ---- it is a run of the content

    over_none : (xs : List Mutation) → AllByRecursion (Held C) xs → (s p : ℕ) (t : Tombstone) → C.cover s p ≡ None → Over xs s p t → ⊥
    over_none xs g s p t e k = let (a, b, m, l, r) = k in let h : Span C s a b t = all_member (Held C) xs g m in some_none t (h.same p l r) e

    pub run_pairs : Pairs (run_of C)
    run_pairs = held_run C sound.settled (run_of C) (run_ascends 1) (λ r m. all_member (Held C) (run_of C) (run_held 1) m)

    pub run_of_lem : RunOf C (run_of C)
    run_of_lem = record { run = run_holds (run_of C) run_pairs; same = same_content (content_of (run_of C)) C (λ s p. covers s p (C.cover s p) refl) (λ s p f. cells s p f (C.cell s p f) refl) }
      where
        covers : (s p : ℕ) (o : Option Tombstone) → C.cover s p ≡ o → (content_of (run_of C)).cover s p ≡ C.cover s p
        covers s p None e = none_if _ (λ t i. over_none (run_of C) (run_held 1) s p t e (cover_found (run_of C) s p t i)) ∙ sym e
        covers s p (Some t) e = let (a, b, h, l, r) = span_over s p t e in run_cover (run_of C) s a b p t run_pairs (held_in_run (deletion s a b t) h) l r ∙ sym e

        cells : (s p f : ℕ) (o : Option Version) → C.cell s p f ≡ o → (content_of (run_of C)).cell s p f ≡ C.cell s p f
        cells s p f None e = none_if _ (λ c i. some_none c (all_member (Held C) (run_of C) (run_held 1) (cell_found (run_of C) s p f c i)) e) ∙ sym e
        cells s p f (Some c) e = run_cell (run_of C) s p f c run_pairs (held_in_run (entry s p f c) e) ∙ sym e

    held_in_range : (r : Mutation) → Held C r → in_range r ≡ true
    held_in_range (deletion s a b t) h =
        let i = cover_plot s a t (h.same a (omega arith) h.ordered) in
        let j = cover_plot s b t (h.same b h.ordered (omega arith)) in
        let l = h.ordered in
        grind (arith, nat_tests)
    held_in_range (entry s p f c) h = let i = cell_place s p f c h in grind (arith, nat_tests)

    pub run_in_range : InRange (run_of C)
    run_in_range = all_holds in_range (Held C) held_in_range (run_of C) (run_held 1)

-- ---- the content of records in range is sound

member_ranged : (ms : List Mutation) → InRange ms → (r : Mutation) → Memᴰ r ms → in_range r ≡ true
member_ranged ms h r m = all_member (λ x. in_range x ≡ true) ms (all-says in_range (λ x. in_range x ≡ true) (λ x i. i) ms h) m

cover_ranged : (ms : List Mutation) → InRange ms → (s p : ℕ) (t : Tombstone) → (content_of ms).cover s p ≡ Some t → (1 ≤ s) × (s ≤ 9999) × (1 ≤ p) × (p ≤ 999999)
cover_ranged ms h s p t e =
    let (a, b, m, l, r) = cover_found ms s p t e in
    let k = member_ranged ms h (deletion s a b t) m in
    (grind (arith, nat_tests), grind (arith, nat_tests), grind (arith, nat_tests), grind (arith, nat_tests))

cell_ranged : (ms : List Mutation) → InRange ms → (s p f : ℕ) (c : Version) → (content_of ms).cell s p f ≡ Some c → (1 ≤ s) × (s ≤ 9999) × (1 ≤ p) × (p ≤ 999999) × (1 ≤ f) × (f ≤ 32)
cell_ranged ms h s p f c e =
    let k = member_ranged ms h (entry s p f c) (cell_found ms s p f c e) in
    (grind (arith, nat_tests), grind (arith, nat_tests), grind (arith, nat_tests), grind (arith, nat_tests), grind (arith, nat_tests), grind (arith, nat_tests))

pub sound_content : (ms : List Mutation) → InRange ms → Sound (content_of ms)
sound_content ms h = record {
  settled = content_of_settled ms;
  plots = λ s p out. none_if _ (λ t e. let k = cover_ranged ms h s p t e in out (k.2, k.3));
  sections = λ s p out. none_if _ (λ t e. let k = cover_ranged ms h s p t e in out (k.0, k.1));
  cells = λ s p f out. none_if _ (λ c e. out (cell_ranged ms h s p f c e));
}
