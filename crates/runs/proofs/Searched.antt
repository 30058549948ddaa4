-- Binary search by key in a run.
use Rattle.std.proofs.Common.{◌≡◌, ℕ, ◌/◌, ◌<◌, ◌≤◌, Bool, true, false, not, ◌⊎◌, List, [], length, get_or, Bor, sym, ap, ◌∙◌, inl, inr, arith}
use Rattle.std.proofs.lemmas.Bool.{cases_eq, not-true, not-false}
use Rattle.std.specs.Fn.{Mut, Called, ComputesKey}
use Rattle.std.proofs.lemmas.List.Sorted.{IsPartitionPoint-from_clause}
use Rattle.std.specs.List.Sorted.{IsPartitionedBy, IsPartitionPoint}
use Rattle.records.specs.Order.{upto}
use Rattle.reconcile.proofs.Orders.{upto_falls}
use Rattle.layout.specs.Layout.{row_at, mutation_in}
use Rattle.layout.specs.Pieces.{piece, mutation_at}
use Rattle.canon.specs.Run.{key_of}
use Rattle.runs.specs.RunBytes.{RunBytes}
use Rattle.runs.specs.Lookups.{FirstFrom}
use Rattle.runs.proofs.Pieces.{mutation_is, records_order}

-- whether the key of what 48 bytes write is lesser
abbrev pub below : List ℕ → List ℕ → Bool
below key b = not (upto key (key_of (mutation_in (row_at b))))

module _ (key bs : List ℕ) (e : RunBytes bs) (ps : List (List ℕ)) (long : length ps ≡ length bs / 48) (each : (k : ℕ) (d : List ℕ) → k < length ps → get_or ps k d ≡ piece bs k) where
  below_at : (k : ℕ) (d : List ℕ) → k < length ps → below key (get_or ps k d) ≡ not (upto key (key_of (mutation_at bs k)))
  below_at k d l = ap (λ m. not (upto key (key_of m))) (mutation_is bs k (get_or ps k d) (each k d l))

  parted : IsPartitionedBy (below key) ps
  parted i j d l m h = below_at i d (omega arith) ∙ ap not (go (cases_eq i j))
    where
      high : upto key (key_of (mutation_at bs j)) ≡ false
      high = not-true (upto key (key_of (mutation_at bs j))) (sym (below_at j d m) ∙ h)

      go : (i ≡ j) ⊎ (i ≡ j → ⊥) → upto key (key_of (mutation_at bs i)) ≡ false
      go (inl q) = ap (λ k. upto key (key_of (mutation_at bs k))) q ∙ high
      go (inr q) = upto_falls key (key_of (mutation_at bs j)) (key_of (mutation_at bs i)) high (records_order bs (length bs / 48) e.run i j (omega arith) (omega arith)).0

  first_from : (n : ℕ) → n ≤ length ps → IsPartitionPoint (λ b. below key b ≡ true) (λ b. below key b ≡ false) ps n → FirstFrom key bs n
  first_from n within h = record {
    within = omega arith;
    below = λ k l. not-true (upto key (key_of (mutation_at bs k))) (sym (below_at k [] (omega arith)) ∙ h.0 k [] (omega arith) l);
    above = λ k l m. not-false (upto key (key_of (mutation_at bs k))) (sym (below_at k [] (omega arith)) ∙ h.1 k [] l (omega arith));
  }

-- what `partition_point` finds by that test
pub found : {F : Type 0} {g : Mut F (Bor (List ℕ) × Unit {0}) Bool} {f : F} (key bs : List ℕ) (ps : List (List ℕ)) (n : ℕ)
    → ((q : List ℕ → Bool) → ComputesKey g q f → IsPartitionedBy q ps → IsPartitionPoint (λ y. q y ≡ true) (λ y. q y ≡ false) ps n)
    → n ≤ length ps → RunBytes bs → length ps ≡ length bs / 48 → ((k : ℕ) (d : List ℕ) → k < length ps → get_or ps k d ≡ piece bs k)
    → ((a : Bor (List ℕ) × Unit {0}) (r : Bool) (f' : F) → Called g f a r f' → (r ≡ below key a.0.now) × (f' ≡ f)) → FirstFrom key bs n
found key bs ps n clause within e long each calls = first_from key bs e ps long each n within (IsPartitionPoint-from_clause (below key) ps n clause (parted key bs e ps long each) calls)
