-- The records that a run's bytes write, and what they come to.
use Rattle.std.specs.Prelude.{ℕ, ◌/◌, List, map, length}
use Rattle.std.specs.List.{range_with_len, flat_map}
use Rattle.records.specs.Content.{Content, Mutation, content_of}
use Rattle.layout.specs.Layout.{encoded}
use Rattle.layout.specs.Pieces.{mutation_at}
use Rattle.canon.specs.Spans.{run_of}

-- the first n records
unfoldable pub records_to : List ℕ → ℕ → List Mutation
records_to bs n = map (mutation_at bs) (range_with_len 0 n)

-- all of them
abbrev pub records_in : List ℕ → List Mutation
records_in bs = records_to bs (length bs / 48)

abbrev pub content_in : List ℕ → Content
content_in bs = content_of (records_in bs)

-- the bytes of a content: those of its run
unfoldable pub run_bytes : Content → List ℕ
run_bytes c = flat_map encoded (run_of c)
