-- The records of a file, 48 bytes each, one behind the other.
use Rattle.std.specs.Prelude.{ℕ, ◌*◌, List, take, drop}
use Rattle.records.specs.Content.{Mutation}
use Rattle.layout.specs.Layout.{row_at, mutation_in}

-- the i-th 48 bytes of a file, fewer at its end
unfoldable pub piece : List ℕ → ℕ → List ℕ
piece bs i = take 48 (drop (48 * i) bs)

-- what the numbers in the i-th 48 bytes say, lawful or not
unfoldable pub mutation_at : List ℕ → ℕ → Mutation
mutation_at bs i = mutation_in (row_at (piece bs i))
