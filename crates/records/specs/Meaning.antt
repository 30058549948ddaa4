-- What the values of the code say.
use Rattle.std.specs.Prelude.{Bool, cond, Some, None, Option}
use Rattle.records.specs.declared.tombstone.Tombstone.{Tombstone}
use Rattle.records.specs.declared.place.Place.{Place}
use Rattle.records.specs.declared.place.Plot.{Plot}
use Rattle.records.specs.declared.cell.Cell.{Cell}
use Rattle.records.specs.declared.deletion.Deletion.{Deletion}
use Rattle.records.specs.declared.record.Record.{Record}
use Rattle.records.specs.declared.record.Record.TheVariants as which
use Rattle.records.specs.States.{rank_of, day_of, value_of}
use Rattle.records.specs.Order.{greatest}
use Rattle.records.specs.Content.{Version, Content, Mutation, deletion, entry, covered, tombstone_key, version_key}
use Rattle.records.specs.Ranges.{place_fits}

abbrev pub tombstone_of : Deletion → Tombstone
tombstone_of d = d.tombstone

abbrev pub version_of : Cell → Version
version_of c = record { stamp = c.stamp; rank = rank_of c.state; day = day_of c.state; value = value_of c.state }

abbrev pub deletion_says : Deletion → Mutation
deletion_says d = deletion d.section d.first d.last (tombstone_of d)

-- the cover of a plot in a content, and the cell at a place
abbrev pub cover_on : Content → Plot → Option Tombstone
cover_on c p = c.cover p.section p.number

abbrev pub held_at : Content → Place → Option Version
held_at c p = c.cell p.plot.section p.plot.number p.field

-- whether all numbers of a place are in range
abbrev pub place_in_range : Place → Bool
place_in_range p = place_fits p.plot.section p.plot.number p.field

-- a version at a place
abbrev pub entry_at : Place → Version → Mutation
entry_at p v = entry p.plot.section p.plot.number p.field v

abbrev pub cell_says : Cell → Mutation
cell_says c = entry_at c.place (version_of c)

abbrev pub says : Record → Mutation
says (which.Deletion d) = deletion_says d
says (which.Cell c) = cell_says c

-- the later of two deletions, the second where their stamps and days are equal
abbrev pub later_of : Option Deletion → Option Deletion → Option Deletion
later_of a b = greatest (λ d. tombstone_key (tombstone_of d)) a b

-- the greater of two cells, the second where their versions are equal
abbrev pub greater_of : Option Cell → Option Cell → Option Cell
greater_of a b = greatest (λ c. version_key (version_of c)) a b

-- the cell, or none where the cover covers it
abbrev pub uncovered_of : Option Tombstone → Option Cell → Option Cell
uncovered_of t None = None
uncovered_of t (Some c) = cond (covered t c.stamp) None (Some c)
