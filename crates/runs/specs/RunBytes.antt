-- Which bytes are a run, as facts, and what a fault says of bytes that are none.
use Rattle.std.specs.Prelude.{◌≡◌, ℕ, ◌+◌, ◌/◌, ◌%◌, ◌<◌, List, length, Some, None}
use Rattle.layout.specs.Layout.{fault_of}
use Rattle.layout.specs.Pieces.{piece}
use Rattle.canon.specs.Run.{IsRun, InRange}
use Rattle.runs.specs.declared.fault.RunFault.{RunFault}
use Rattle.runs.specs.declared.fault.RunFault.TheVariants.{Length, Record, Order, Empty}
use Rattle.runs.specs.Records.{records_to, records_in, content_in, run_bytes}
use Rattle.runs.specs.Faults.{LawfulTo}

-- bytes that are a run: whole records, each well-formed, in order; they are the one list of bytes with their content
pub record RunBytes (bs : List ℕ) : Type 0 where
  pub whole : length bs % 48 ≡ 0
  pub lawful : LawfulTo bs (length bs / 48)
  pub ranged : InRange (records_in bs)
  pub run : IsRun (records_in bs)
  pub bytes : bs ≡ run_bytes (content_in bs)

-- the records before the i-th are well-formed and a run
pub record FaultFrom (bs : List ℕ) (i : ℕ) : Type 0 where
  pub whole : length bs % 48 ≡ 0
  pub within : i < length bs / 48
  pub lawful : LawfulTo bs i
  pub run : IsRun (records_to bs i)

-- what a fault says of the bytes: an out of order record is well-formed, and those before it are a run but not with it
abbrev pub FaultOfRun : List ℕ → RunFault → Type 0
FaultOfRun bs Length = length bs % 48 ≡ 0 → ⊥
FaultOfRun bs (Record e) = FaultFrom bs e.index × (fault_of (piece bs e.index) ≡ Some e.fault)
FaultOfRun bs (Order i why) = FaultFrom bs i × (fault_of (piece bs i) ≡ None) × (IsRun (records_to bs (i + 1)) → ⊥)
FaultOfRun bs Empty = ⊥
