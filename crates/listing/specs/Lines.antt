-- What a file of records says.
use Rattle.std.specs.Prelude.{◌≡◌, ℕ, ◌+◌, ◌/◌, List, map, length, vec_items, Result}
use Rattle.std.specs.List.{filter_map, range_with_len}
use Rattle.std.specs.Result.{result_ok}
use Rattle.records.specs.Content.{Mutation}
use Rattle.layout.specs.declared.fault.RecordFault.{RecordFault}
use Rattle.layout.specs.Layout.{decoded, outcome}
use Rattle.layout.specs.Pieces.{piece}
use Rattle.listing.specs.declared.sheet.Sheet.{Sheet}
use Rattle.listing.specs.Count.{counts_of}

-- the pieces of a file, 48 bytes each, the last perhaps shorter
abbrev pub pieces : List ℕ → List (List ℕ)
pieces bs = map (piece bs) (range_with_len 0 ((length bs + 47) / 48))

-- what each of them says
abbrev pub lines_of : List ℕ → List (Result Mutation RecordFault)
lines_of bs = map decoded (pieces bs)

-- the records among them
abbrev pub well_formed : List (Result Mutation RecordFault) → List Mutation
well_formed ls = filter_map result_ok ls

-- a sheet has a line for each 48 bytes and for a rest, and the counts that the records among them come to
pub record SheetOf (bs : List ℕ) (s : Sheet) : Type 0 where
  pub lines : map outcome (vec_items s.lines) ≡ lines_of bs
  pub counts : vec_items s.counts ≡ counts_of (well_formed (lines_of bs))
