-- Covers of neighbouring plots, and what the run has at one plot and at one place.
use Rattle.std.proofs.Common.{◌≡◌, ℕ, zero, suc, ◌+◌, ◌-◌, ◌*◌, ◌/◌, ◌%◌, ◌<◌, ◌≤◌, Bool, true, false, cond, ◌⊎◌, List, [], Some, None, Option, sym, refl, ap, ◌∙◌, inl, inr, arith}
use Rattle.std.proofs.lemmas.Bool.{cases_lt}
use Rattle.records.specs.declared.tombstone.Tombstone.{Tombstone}
use Rattle.records.specs.Content.{Content, Mutation}
use Rattle.canon.specs.Spans.{same_cover, stretch, span_of, cell_of, spot, span_at, cell_at}
use Rattle.canon.proofs.Pairs.{same_tombstone_lem, tombstone_same}

-- ---- covers

pub same_cover_refl : (a : Option Tombstone) → same_cover a a ≡ true
same_cover_refl None = refl
same_cover_refl (Some t) = tombstone_same t t refl

pub cover_same : (a b : Option Tombstone) → same_cover a b ≡ true → a ≡ b
cover_same None None h = refl
cover_same None (Some u) h = absurd (let z : ◌≡◌ {A = ℕ} 0 1 = cc in omega arith)
cover_same (Some t) None h = absurd (let z : ◌≡◌ {A = ℕ} 0 1 = cc in omega arith)
cover_same (Some t) (Some u) h = ap Some (same_tombstone_lem t u h)

pub cover_differs : (a b : Option Tombstone) → (a ≡ b → ⊥) → same_cover a b ≡ false
cover_differs a b h = go (same_cover a b) refl
  where
    go : (v : Bool) → same_cover a b ≡ v → v ≡ false
    go true e = absurd (h (cover_same a b e))
    go false e = refl

-- ---- stretches

-- e is the last plot, at most n on, of the stretch of equal cover from p
pub record Reaches (cover : ℕ → Option Tombstone) (p n e : ℕ) : Type 0 where
  pub from : p ≤ e
  pub to : e ≤ p + n
  pub alike : (q : ℕ) → p ≤ q → q ≤ e → cover q ≡ cover p
  pub ends : e < p + n → cover (e + 1) ≡ cover p → ⊥

pub stretch_reaches : (cover : ℕ → Option Tombstone) (p n : ℕ) → Reaches cover p n (stretch cover p n)
stretch_reaches cover p zero = record { from = omega arith; to = omega arith; alike = λ q l r. ap cover (omega arith); ends = λ l. absurd (omega arith) }
stretch_reaches cover p (suc n) = go (same_cover (cover p) (cover (p + 1))) refl (stretch_reaches cover (p + 1) n)
  where
    go : (v : Bool) → same_cover (cover p) (cover (p + 1)) ≡ v → Reaches cover (p + 1) n (stretch cover (p + 1) n) → Reaches cover p (suc n) (cond v (stretch cover (p + 1) n) p)
    go true e h =
        let on : cover p ≡ cover (p + 1) = cover_same (cover p) (cover (p + 1)) e in
        let f = h.from in let t = h.to in
        record { from = omega arith; to = omega arith; alike = λ q l r. at q l r (cases_lt p q) on h; ends = λ l k. h.ends (omega arith) (k ∙ on) }
      where
        at : (q : ℕ) → p ≤ q → q ≤ stretch cover (p + 1) n → (p < q) ⊎ (q ≤ p) → cover p ≡ cover (p + 1) → Reaches cover (p + 1) n (stretch cover (p + 1) n) → cover q ≡ cover p
        at q l r (inl k) on h = h.alike q (omega arith) r ∙ sym on
        at q l r (inr k) on h = ap cover (omega arith)
    go false e h = record { from = omega arith; to = omega arith; alike = λ q l r. ap cover (omega arith); ends = λ l k. let z : ◌≡◌ {A = Bool} false true = sym e ∙ ap (same_cover (cover p)) k ∙ same_cover_refl (cover p) in let w : ◌≡◌ {A = ℕ} 0 1 = cc in omega arith }

pub reaches_one : (cover : ℕ → Option Tombstone) (p n e d : ℕ) → Reaches cover p n e → Reaches cover p n d → e ≡ d
reaches_one cover p n e d h k = go (cases_lt e d) (cases_lt d e)
  where
    go : (e < d) ⊎ (d ≤ e) → (d < e) ⊎ (e ≤ d) → e ≡ d
    go (inl a) b = let t = k.to in let f = h.from in absurd (h.ends (omega arith) (k.alike (e + 1) (omega arith) (omega arith)))
    go (inr a) (inl b) = let t = h.to in let f = k.from in absurd (k.ends (omega arith) (h.alike (d + 1) (omega arith) (omega arith)))
    go (inr a) (inr b) = omega arith

module _ (C : Content) (s : ℕ) where
  -- no span comes over into plot p
  abbrev pub Fresh : ℕ → Type 0
  Fresh p = (t : Tombstone) → C.cover s (p - 1) ≡ Some t → C.cover s p ≡ Some t → ⊥

  -- the span at a plot where a stretch begins, of the cover o and with the last plot e
  pub first_here : (p e : ℕ) (o : Option Tombstone) → Fresh p → C.cover s p ≡ o → Reaches (C.cover s) p (999999 - p) e → span_at C s p ≡ span_of s p e o
  unfolding span_at
  first_here p e o fresh is h =
      let last : stretch (C.cover s) p (999999 - p) ≡ e = reaches_one (C.cover s) p (999999 - p) _ _ (stretch_reaches (C.cover s) p (999999 - p)) h in
      rw (last, is) (go o is)
    where
      go : (o : Option Tombstone) → C.cover s p ≡ o → cond (same_cover (C.cover s (p - 1)) o) [] (span_of s p e o) ≡ span_of s p e o
      go None is = both (same_cover (C.cover s (p - 1)) None)
        where
          both : (v : Bool) → ◌≡◌ {A = List Mutation} (cond v [] []) []
          both true = refl
          both false = refl
      go (Some t) is = let k : same_cover (C.cover s (p - 1)) (Some t) ≡ false = cover_differs _ _ (λ e. fresh t e is) in rw k refl

  -- ---- cells

  pub at_place : (p f : ℕ) → f < 256 → cell_at C s (spot p f) ≡ cell_of s p f (C.cell s p f)
  unfolding cell_at
  at_place p f h =
      let u : (256 * p + f) / 256 ≡ p = omega arith in
      let v : (256 * p + f) % 256 ≡ f = omega arith in
      rw (u, v) refl
