-- What the check of a run keeps, at each record.
use Rattle.std.specs.Prelude.{ℕ, ◌/◌, ◌<◌, ◌≤◌, List, length}
use Rattle.records.specs.Content.{Mutation}
use Rattle.layout.specs.Pieces.{mutation_at}
use Rattle.canon.specs.Check.{Passed}

-- of the records in these bytes the first i can cover neither m nor what follows it
pub record PassedTo (bs : List ℕ) (i : ℕ) (m : Mutation) : Type 0 where
  pub within : i ≤ length bs / 48
  pub each : (k : ℕ) → k < i → Passed (mutation_at bs k) m
