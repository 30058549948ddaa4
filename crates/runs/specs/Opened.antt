-- What is known of an opened run and of its records.
use Rattle.std.specs.Prelude.{◌≡◌, ℕ, ◌/◌, ◌<◌, List, length, None}
use Rattle.records.specs.Content.{Content}
use Rattle.layout.specs.Layout.{row_at, mutation_in, fault_of}
use Rattle.layout.specs.Pieces.{piece, mutation_at}
use Rattle.runs.specs.declared.run.Run.{Run}
use Rattle.runs.specs.declared.view.RecordView.{RecordView}
use Rattle.runs.specs.Records.{content_in}
use Rattle.runs.specs.RunBytes.{RunBytes}

abbrev pub bytes_in : Run → List ℕ
bytes_in run = run.bytes.now

-- how many records it has
abbrev pub size : Run → ℕ
size run = length (bytes_in run) / 48

-- what the run says
abbrev pub content_of_run : Run → Content
content_of_run run = content_in (bytes_in run)

-- every run is one: the type itself says so
abbrev pub Opened : Run → Type 0
Opened run = RunBytes (bytes_in run)

-- v is the i-th record of the run
pub record ViewAt (bs : List ℕ) (i : ℕ) (v : RecordView) : Type 0 where
  pub within : i < length bs / 48
  pub part : v.bytes.now ≡ piece bs i
  pub place : v.index ≡ i
  pub lawful : fault_of v.bytes.now ≡ None
  pub says : mutation_in (row_at v.bytes.now) ≡ mutation_at bs i
