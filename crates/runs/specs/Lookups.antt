-- What is looked up in a content.
use Rattle.std.specs.Prelude.{◌≡◌, ℕ, ◌/◌, ◌<◌, ◌≤◌, true, false, List, length, Some, None, Option}
use Rattle.std.specs.Option.{option_map}
use Rattle.records.specs.declared.cell.Cell.{Cell}
use Rattle.records.specs.declared.deletion.Deletion.{Deletion}
use Rattle.records.specs.declared.place.Place.{Place}
use Rattle.records.specs.declared.place.Plot.{Plot}
use Rattle.records.specs.Content.{Content}
use Rattle.records.specs.Meaning.{tombstone_of, version_of, cover_on, held_at, entry_at, cell_says}
use Rattle.records.specs.Order.{upto}
use Rattle.layout.specs.Pieces.{mutation_at}
use Rattle.canon.specs.Run.{key_of}
use Rattle.canon.specs.Spans.{Span, spot}

-- d is the deletion over plot p, and its plots are the longest stretch with its stamp and day
pub record Over (c : Content) (p : Plot) (d : Deletion) : Type 0 where
  pub section : d.section ≡ p.section
  pub from : d.first ≤ p.number
  pub to : p.number ≤ d.last
  pub span : Span c p.section d.first d.last (tombstone_of d)

-- r is the deletion over it, or none where it has no cover
abbrev pub DeletionOver : Content → Plot → Option Deletion → Type 0
DeletionOver c p None = cover_on c p ≡ None
DeletionOver c p (Some d) = Over c p d

-- which of its section's places a place is
abbrev pub spot_of : Place → ℕ
spot_of p = spot p.plot.number p.field

-- the k-th place of the section comes before r; each does if r is none
abbrev pub Ahead : ℕ → Option Cell → Type 0
Ahead k None = Unit {0}
Ahead k (Some x) = k < spot_of x.place

-- x is a cell of p's section at p or after it
pub record Reached (c : Content) (p : Place) (x : Cell) : Type 0 where
  pub section : x.place.plot.section ≡ p.plot.section
  pub from : spot_of p ≤ spot_of x.place
  pub cell : held_at c x.place ≡ Some (version_of x)

-- r, if any, is one
abbrev pub ReachedBy : Content → Place → Option Cell → Type 0
ReachedBy c p None = Unit {0}
ReachedBy c p (Some x) = Reached c p x

-- r is the first cell of p's section at p or after it
pub record NextCell (c : Content) (p : Place) (r : Option Cell) : Type 0 where
  pub bare : (q g : ℕ) → g < 256 → spot_of p ≤ spot q g → Ahead (spot q g) r → c.cell p.plot.section q g ≡ None
  pub found : ReachedBy c p r

-- n is the index of the first of the records in these bytes with this key or a greater one
pub record FirstFrom (key : List ℕ) (bs : List ℕ) (n : ℕ) : Type 0 where
  pub within : n ≤ length bs / 48
  pub below : (k : ℕ) → k < n → upto key (key_of (mutation_at bs k)) ≡ false
  pub above : (k : ℕ) → n ≤ k → k < length bs / 48 → upto key (key_of (mutation_at bs k)) ≡ true

-- r is the cell at a place, or none where there is none
abbrev pub CellAt : Content → Place → Option Cell → Type 0
CellAt c p r = option_map cell_says r ≡ option_map (entry_at p) (held_at c p)
