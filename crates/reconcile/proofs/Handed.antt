-- What is handed on is one of what came in.
use Rattle.std.proofs.Common.{◌≡◌, Bool, true, false, cond, ◌⊎◌, Some, None, Option, refl, inl, inr}
use Rattle.records.specs.declared.cell.Cell.{Cell}
use Rattle.records.specs.declared.tombstone.Tombstone.{Tombstone}
use Rattle.records.specs.Content.{covered, version_key}
use Rattle.records.specs.Meaning.{version_of, greater_of, uncovered_of}
use Rattle.reconcile.proofs.Orders.{greatest_either}

pub greater_either : (a b : Option Cell) → (greater_of a b ≡ a) ⊎ (greater_of a b ≡ b)
greater_either = greatest_either (λ c. version_key (version_of c))

pub uncovered_either : (t : Option Tombstone) (a : Option Cell) → (uncovered_of t a ≡ a) ⊎ (uncovered_of t a ≡ None)
uncovered_either t None = inl refl
uncovered_either t (Some c) = go (covered t c.stamp)
  where
    go : (b : Bool) → (cond b None (Some c) ≡ Some c) ⊎ (cond b None (Some c) ≡ None)
    go true = inr refl
    go false = inl refl
