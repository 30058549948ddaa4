-- The first fault.
use Rattle.std.proofs.Common.{◌≡◌, ℕ, zero, suc, ◌+◌, ◌-◌, ◌<◌, Bool, true, false, List, Some, None, Option, refl, ap, ◌∙◌, subst, arith}
use Rattle.layout.specs.declared.fault.RecordFault.{RecordFault}
use Rattle.layout.specs.Layout.{fault_of}
use Rattle.layout.specs.Pieces.{piece, mutation_at}
use Rattle.canon.specs.Run.{is_run, IsRun}
use Rattle.runs.specs.declared.fault.Disorder.{Disorder}
use Rattle.runs.specs.Records.{records_to}
use Rattle.runs.specs.Faults.{LawfulTo, fault_by, fault_at, disorder, or_else, earliest}
use Rattle.runs.proofs.Pieces.{records_none}

module _ {A : Type 0} (f : ℕ → Option A) where
  pub first_start : earliest f 0 ≡ None
  unfolding earliest
  first_start = refl

  first_suc : (n : ℕ) → earliest f (n + 1) ≡ or_else (earliest f n) (f n)
  unfolding earliest
  first_suc n = let e : n + 1 ≡ suc n = omega arith in rw e

  pub first_more : (n : ℕ) → earliest f n ≡ None → f n ≡ None → earliest f (n + 1) ≡ None
  first_more n h k = first_suc n ∙ ap (λ o. or_else o (f n)) h ∙ k

  or_none : (a b : Option A) → or_else a b ≡ None → (a ≡ None) × (b ≡ None)
  or_none None b h = (refl, h)
  or_none (Some x) b h = cc

  -- none of the first n
  pub first_none : (n k : ℕ) → earliest f n ≡ None → k < n → f k ≡ None
  unfolding earliest
  first_none zero k h l = absurd (omega arith)
  first_none (suc n) k h l = go (or_none (earliest f n) (f n) h) (first_none n k)
    where
      go : (earliest f n ≡ None) × (f n ≡ None) → (earliest f n ≡ None → k < n → f k ≡ None) → f k ≡ None
      go e ih = grind (arith, e.0, e.1, ih)

  stays : (x : A) (i n : ℕ) → earliest f i ≡ Some x → earliest f (i + n) ≡ Some x
  stays x i zero h = let e : i + 0 ≡ i = omega arith in ap (earliest f) e ∙ h
  stays x i (suc n) h =
      let e : i + suc n ≡ i + n + 1 = omega arith in
      ap (earliest f) e ∙ first_suc (i + n) ∙ ap (λ o. or_else o (f (i + n))) (stays x i n h)

  -- the i-th is the first
  pub first_some : (x : A) (i n : ℕ) → earliest f i ≡ None → f i ≡ Some x → i < n → earliest f n ≡ Some x
  first_some x i n h k l =
      let e : n ≡ i + 1 + (n - (i + 1)) = omega arith in
      ap (earliest f) e ∙ stays x (i + 1) (n - (i + 1)) (first_suc i ∙ ap (λ o. or_else o (f i)) h ∙ k)

  -- the first there is, and where
  abbrev pub Found : ℕ → A → Type 0
  Found n x = (i : ℕ) × (i < n) × (earliest f i ≡ None) × (f i ≡ Some x)

  pub first_found : (n : ℕ) (x : A) → earliest f n ≡ Some x → Found n x
  unfolding earliest
  first_found zero x h = cc
  first_found (suc n) x h = go (earliest f n) refl h (first_found n)
    where
      go : (o : Option A) → earliest f n ≡ o → or_else o (f n) ≡ Some x → ((y : A) → earliest f n ≡ Some y → Found n y) → Found (suc n) x
      go None e k ih = (n, omega arith, e, k)
      go (Some y) e k ih = let (i, l, none, some) = ih y e in (i, omega arith, none, some ∙ k)

-- ---- the fault of one record

by_none : (i : ℕ) (why : Disorder) (f : Option RecordFault) (run : Bool) → fault_by i why f run ≡ None → (f ≡ None) × (run ≡ true)
by_none i why (Some g) run h = cc
by_none i why None true h = (refl, refl)
by_none i why None false h = cc

pub fault_none : (bs : List ℕ) (i : ℕ) → fault_at bs i ≡ None → (fault_of (piece bs i) ≡ None) × IsRun (records_to bs (i + 1))
unfolding fault_at
fault_none bs i h = by_none i (disorder (records_to bs i) (mutation_at bs i)) (fault_of (piece bs i)) (is_run (records_to bs (i + 1))) h

-- ---- the records before the first fault

module _ (bs : List ℕ) where
  -- the first n are a run
  pub run_so_far : (n : ℕ) → earliest (fault_at bs) n ≡ None → IsRun (records_to bs n)
  run_so_far zero h = ap is_run (records_none bs)
  run_so_far (suc n) h =
      let e : n + 1 ≡ suc n = omega arith in
      subst (λ k. IsRun (records_to bs k)) e (fault_none bs n (first_none (fault_at bs) (suc n) n h (omega arith))).1

  pub lawful_so_far : (n : ℕ) → earliest (fault_at bs) n ≡ None → LawfulTo bs n
  lawful_so_far n h = record { each = λ k l. (fault_none bs k (first_none (fault_at bs) n k h l)).0 }
