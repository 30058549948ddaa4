-- What a value and a cell's state hold.
use Rattle.std.specs.Prelude.{ℕ, List, [], take}
use Rattle.records.specs.declared.value.Value.{Value}
use Rattle.records.specs.declared.state.State.{State}
use Rattle.records.specs.declared.state.State.TheVariants.{Live, Cleared}

-- the bytes of a value
abbrev pub bytes_of : Value → List ℕ
bytes_of v = take v.len v.bytes

-- 0 of a live state, 1 of a cleared one
abbrev pub rank_of : State → ℕ
rank_of (Live v) = 0
rank_of (Cleared d) = 1

-- the day of a cleared state, 0 of a live one
abbrev pub day_of : State → ℕ
day_of (Live v) = 0
day_of (Cleared d) = d

-- the value of a live state, no bytes of a cleared one
abbrev pub value_of : State → List ℕ
value_of (Live v) = bytes_of v
value_of (Cleared d) = []
