-- What is found in a run is what its content says.
use Rattle.std.proofs.Common.{◌≡◌, ℕ, ◌-◌, ◌/◌, ◌<◌, ◌≤◌, true, false, cond, ◌&&◌, eqb, ◌⊎◌, List, [], ◌∷◌, length, get_or, Some, None, Option, sym, ap, ◌∙◌, subst, inl, inr, arith, MatchOption}
use mathlib.Core.List.{Memᴰ}
use Rattle.std.proofs.lemmas.Bool.Decides.{nat_tests}
use Rattle.std.proofs.lemmas.Bool.{cases_eq, cases_order}
use Rattle.records.specs.declared.deletion.Deletion.{Deletion}
use Rattle.records.specs.declared.cell.Cell.{Cell}
use Rattle.records.specs.declared.place.Place.{Place}
use Rattle.records.specs.declared.place.Plot.{Plot}
use Rattle.records.specs.Order.{upto}
use Rattle.records.specs.Content.{Mutation, deletion, entry, one}
use Rattle.records.specs.Meaning.{tombstone_of, version_of, cover_on, deletion_says, cell_says}
use Rattle.layout.specs.Pieces.{mutation_at}
use Rattle.canon.specs.Run.{key_of}
use Rattle.canon.specs.Spans.{spot}
use Rattle.canon.proofs.Pairs.{Pairs, run_says}
use Rattle.canon.proofs.Runs.{run_span, run_cell}
use Rattle.canon.proofs.Lookups.{Starts, member_at, cover_last, cover_none, cell_between}
use Rattle.runs.specs.Records.{records_in, content_in}
use Rattle.runs.specs.RunBytes.{RunBytes}
use Rattle.runs.specs.Lookups.{FirstFrom, Over, DeletionOver, spot_of, NextCell}
use Rattle.runs.proofs.Pieces.{records_long, records_at}

-- ---- keys of cells

-- a record from a cell's key on that is no cell of its section
later_section : (x : Mutation) (s p f q g : ℕ) → upto (s ∷ 1 ∷ p ∷ f ∷ []) (key_of x) ≡ true → ((q g : ℕ) → (one x).cell s q g ≡ None) → upto (key_of x) (s ∷ 1 ∷ q ∷ g ∷ []) ≡ false
later_section (deletion s' a b t) s p f q g h other = grind (arith, nat_tests)
later_section (entry s' p' f' c) s p f q g h other = go (cases_eq s' s)
  where
    go : (s' ≡ s) ⊎ (s' ≡ s → ⊥) → upto (s' ∷ 1 ∷ p' ∷ f' ∷ []) (s ∷ 1 ∷ q ∷ g ∷ []) ≡ false
    go (inl i) =
        let here : (eqb s s' && (eqb p' p' && eqb f' f')) ≡ true = grind (arith, nat_tests) in
        let none = sym (other p' f') ∙ ap (λ v. cond v (Some c) None) here in cc
    go (inr i) = grind (arith, nat_tests)

earlier_place : (s p f q g : ℕ) → f < 256 → spot q g < spot p f → upto (s ∷ 1 ∷ p ∷ f ∷ []) (s ∷ 1 ∷ q ∷ g ∷ []) ≡ false
earlier_place s p f q g t h = go (cases_order p q)
  where
    go : (p ≡ q) ⊎ ((p < q) ⊎ (q < p)) → upto (s ∷ 1 ∷ p ∷ f ∷ []) (s ∷ 1 ∷ q ∷ g ∷ []) ≡ false
    go (inl i) = let l : g < f = omega arith in grind (arith, nat_tests)
    go (inr (inl i)) = absurd (omega arith)
    go (inr (inr i)) = grind (arith, nat_tests)

place_reached : (s p f q g : ℕ) → f < 256 → upto (s ∷ 1 ∷ p ∷ f ∷ []) (s ∷ 1 ∷ q ∷ g ∷ []) ≡ true → spot p f ≤ spot q g
place_reached s p f q g t h = go (cases_order p q)
  where
    go : (p ≡ q) ⊎ ((p < q) ⊎ (q < p)) → spot p f ≤ spot q g
    go (inl i) = let l : f ≤ g = grind (arith, nat_tests) in omega arith
    go (inr (inl i)) = omega arith
    go (inr (inr i)) = absurd (grind (arith, nat_tests))

module _ {bs : List ℕ} (e : RunBytes bs) where
  pairs : Pairs (records_in bs)
  pairs = run_says (records_in bs) e.run

  at : (k : ℕ) → k < length bs / 48 → get_or (records_in bs) k (mutation_at bs 0) ≡ mutation_at bs k
  at k l = records_at bs (length bs / 48) k (mutation_at bs 0) l

  member : (k : ℕ) (m : Mutation) → k < length bs / 48 → mutation_at bs k ≡ m → Memᴰ m (records_in bs)
  member k m l i =
      let long = records_long bs (length bs / 48) in
      subst (λ x. Memᴰ x (records_in bs)) (at k l ∙ i) (member_at (records_in bs) k (mutation_at bs 0) (omega arith))

  starts : (key : List ℕ) (n : ℕ) → FirstFrom key bs n → Starts key (records_in bs) (mutation_at bs 0) n
  starts key n h =
      let long = records_long bs (length bs / 48) in (
        omega (arith, h.within),
        (λ k l. subst (λ x. upto key (key_of x) ≡ false) (sym (at k (omega (arith, h.within)))) (h.below k l)),
        (λ k l m. subst (λ x. upto key (key_of x) ≡ true) (sym (at k (omega arith))) (h.above k l (omega arith))),
      )

  -- ---- the deletion over a plot

  pub none_over : {s p n : ℕ} → FirstFrom (s ∷ 0 ∷ p ∷ 1 ∷ []) bs n → n ≡ 0 → (content_in bs).cover s p ≡ None
  none_over {s = s} {p = p} {n = n} h z = cover_none (records_in bs) (mutation_at bs 0) s p (subst (λ m. Starts (s ∷ 0 ∷ p ∷ 1 ∷ []) (records_in bs) (mutation_at bs 0) m) z (starts (s ∷ 0 ∷ p ∷ 1 ∷ []) n h))

  last_over : (s p n : ℕ) → FirstFrom (s ∷ 0 ∷ p ∷ 1 ∷ []) bs n → 0 < n → (content_in bs).cover s p ≡ (one (mutation_at bs (n - 1))).cover s p
  last_over s p n h l =
      cover_last (records_in bs) (mutation_at bs 0) s p n pairs (starts (s ∷ 0 ∷ p ∷ 1 ∷ []) n h) l
      ∙ ap (λ x. (one x).cover s p) (at (n - 1) (omega (arith, h.within)))

  over_by : (p : Plot) (k : ℕ) (d : Deletion) → k < length bs / 48 → mutation_at bs k ≡ deletion_says d → d.section ≡ p.section → d.first ≤ p.number → p.number ≤ d.last → Over (content_in bs) p d
  over_by p k d l i q a b =
      record {
        section = q;
        from = a;
        to = b;
        span = run_span (records_in bs) p.section d.first d.last (tombstone_of d) pairs (member k _ l (i ∙ ap (λ w. deletion w d.first d.last (tombstone_of d)) q)) (omega arith);
      }

  -- together, of the record m before the n-th
  pub over_from : (p : Plot) {n : ℕ} {m : Mutation} (r : Option Deletion) → FirstFrom (p.section ∷ 0 ∷ p.number ∷ 1 ∷ []) bs n → 0 < n → m ≡ mutation_at bs (n - 1) → MatchOption r (cover_on (one m) p ≡ None) (λ d. (m ≡ deletion_says d) × (d.section ≡ p.section) × (d.first ≤ p.number) × (p.number ≤ d.last)) → DeletionOver (content_in bs) p r
  over_from p {n = n} None h l i k = last_over p.section p.number n h l ∙ ap (λ x. cover_on (one x) p) (sym i) ∙ k
  over_from p {n = n} (Some d) h l i k = over_by p (n - 1) d (omega (arith, h.within)) (sym i ∙ k.0) k.1 k.2 k.3

  -- ---- the first cell at or after a place

  module _ (p : Place) {n : ℕ} (small : p.field < 256) (h : FirstFrom (p.plot.section ∷ 1 ∷ p.plot.number ∷ p.field ∷ []) bs n) where
    before : (q g : ℕ) → g < 256 → spot_of p ≤ spot q g → (n < length bs / 48 → upto (key_of (mutation_at bs n)) (p.plot.section ∷ 1 ∷ q ∷ g ∷ []) ≡ false) → (content_in bs).cell p.plot.section q g ≡ None
    before q g t l u =
        let long = records_long bs (length bs / 48) in
        cell_between (records_in bs) (mutation_at bs 0) (p.plot.section ∷ 1 ∷ p.plot.number ∷ p.field ∷ []) p.plot.section q g n pairs (starts (p.plot.section ∷ 1 ∷ p.plot.number ∷ p.field ∷ []) n h) (grind (arith, nat_tests))
        (λ m. let m' : n < length bs / 48 = omega arith in subst (λ x. upto (key_of x) (p.plot.section ∷ 1 ∷ q ∷ g ∷ []) ≡ false) (sym (at n m')) (u m'))

    pub none_left : length bs / 48 ≤ n → NextCell (content_in bs) p None
    none_left l = record { bare = λ q g t i a. before q g t i (λ m. absurd (omega arith)); found = tt }

    -- the record there is no cell of the section, so it belongs to a later one
    none_here : n < length bs / 48 → ((q g : ℕ) → (one (mutation_at bs n)).cell p.plot.section q g ≡ None) → NextCell (content_in bs) p None
    none_here l other = record { bare = λ q g t i a. before q g t i (λ m. later_section (mutation_at bs n) p.plot.section p.plot.number p.field q g (h.above n (omega arith) l) other); found = tt }

    cell_here : (x : Cell) → n < length bs / 48 → mutation_at bs n ≡ cell_says x → x.place.plot.section ≡ p.plot.section → NextCell (content_in bs) p (Some x)
    cell_here x l i q =
        let here : mutation_at bs n ≡ entry p.plot.section x.place.plot.number x.place.field (version_of x) = i ∙ ap (λ w. entry w x.place.plot.number x.place.field (version_of x)) q in
        let above : upto (p.plot.section ∷ 1 ∷ p.plot.number ∷ p.field ∷ []) (p.plot.section ∷ 1 ∷ x.place.plot.number ∷ x.place.field ∷ []) ≡ true = subst (λ m. upto (p.plot.section ∷ 1 ∷ p.plot.number ∷ p.field ∷ []) (key_of m) ≡ true) here (h.above n (omega arith) l) in
        record {
          bare = λ q' g t j a. before q' g t j (λ m. subst (λ m. upto (key_of m) (p.plot.section ∷ 1 ∷ q' ∷ g ∷ []) ≡ false) (sym here) (earlier_place p.plot.section x.place.plot.number x.place.field q' g (omega (arith, x.field_high)) a));
          found = record { section = q; from = place_reached p.plot.section p.plot.number p.field x.place.plot.number x.place.field small above; cell = run_cell (records_in bs) x.place.plot.section x.place.plot.number x.place.field (version_of x) pairs (member n _ l i) };
        }

    -- together, of the record m there
    pub next_from : {m : Mutation} (r : Option Cell) → n < length bs / 48 → m ≡ mutation_at bs n → MatchOption r ((q g : ℕ) → (one m).cell p.plot.section q g ≡ None) (λ x. (m ≡ cell_says x) × (x.place.plot.section ≡ p.plot.section)) → NextCell (content_in bs) p r
    next_from None l i k = none_here l (λ q g. ap (λ x. (one x).cell p.plot.section q g) (sym i) ∙ k q g)
    next_from (Some x) l i k = cell_here x l (sym i ∙ k.0) k.1
