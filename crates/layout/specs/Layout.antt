-- The 48 bytes of a record: the numbers that they write, which of them are lawful, and what they say.
use Rattle.std.specs.Prelude.{◌≡◌, ℕ, ◌+◌, ◌-◌, Bool, cond, List, [], ◌∷◌, ◌++◌, length, take, drop, replicate, Some, None, Ok, Err, Option, Result, ◌==◌, nat_le, slice_index}
use Rattle.records.specs.declared.record.Record.{Record}
use Rattle.records.specs.Zeros.{all_zero}
use Rattle.records.specs.Ranges.{within, section_fits, plot_fits, last_fits, field_fits, stamp_fits, day_fits}
use Rattle.records.specs.Content.{Mutation, deletion, entry}
use Rattle.records.specs.Meaning.{says}
use Rattle.layout.specs.declared.row.Row.{Row}
use Rattle.layout.specs.declared.part.Part.{Part}
use Rattle.layout.specs.declared.part.Part.TheVariants.{Kind, Field, Section, FirstPlot, LastPlot, Stamp, Day, ValueLength, Value}
use Rattle.layout.specs.declared.fault.RecordFault.{RecordFault}
use Rattle.layout.specs.declared.fault.RecordFault.TheVariants.{Length, Malformed}
use Rattle.layout.specs.Numbers.{number_at, laid}
use Rattle.layout.specs.Faults.{first_byte}

-- the row that stands in 48 bytes
abbrev pub row_at : List ℕ → Row
row_at bs = record {
  kind = slice_index bs (first_byte Kind);
  field = slice_index bs (first_byte Field);
  section = number_at (first_byte Section) 2 bs;
  first = number_at (first_byte FirstPlot) 4 bs;
  last = number_at (first_byte LastPlot) 4 bs;
  stamp = number_at (first_byte Stamp) 8 bs;
  day = number_at (first_byte Day) 4 bs;
  len = slice_index bs (first_byte ValueLength);
  value = drop (first_byte Value) bs;
}

-- the widths of its numbers
abbrev pub widths : List ℕ
widths = 1 ∷ 1 ∷ 2 ∷ 4 ∷ 4 ∷ 8 ∷ 4 ∷ 1 ∷ []

abbrev pub numbers : Row → List ℕ
numbers r = r.kind ∷ r.field ∷ r.section ∷ r.first ∷ r.last ∷ r.stamp ∷ r.day ∷ r.len ∷ []

-- the bytes of a row
abbrev pub row_bytes : Row → List ℕ
row_bytes r = laid widths (numbers r) ++ r.value

-- a rule on a part of a row
pub record Rule : Type 0 where
  pub part : Part
  pub holds : Bool

abbrev pub field_rule : ℕ → ℕ → Bool
field_rule kind field = cond (kind == 1) (field == 0) (field_fits field)

abbrev pub last_rule : ℕ → ℕ → ℕ → Bool
last_rule kind first last = cond (kind == 1) (last_fits first last) (last == first)

abbrev pub day_rule : ℕ → ℕ → Bool
day_rule kind day = cond (kind == 2) (day == 0) (day_fits day)

abbrev pub len_rule : ℕ → ℕ → Bool
len_rule kind len = cond (kind == 2) (nat_le len 23) (len == 0)

-- the layout's table: kind 1 is a deletion, 2 a live cell, 3 a cleared one
abbrev pub rules : Row → List Rule
rules r =
    record { part = Kind; holds = within 1 r.kind 3 }
    ∷ record { part = Field; holds = field_rule r.kind r.field }
    ∷ record { part = Section; holds = section_fits r.section }
    ∷ record { part = FirstPlot; holds = plot_fits r.first }
    ∷ record { part = LastPlot; holds = last_rule r.kind r.first r.last }
    ∷ record { part = Stamp; holds = stamp_fits r.stamp }
    ∷ record { part = Day; holds = day_rule r.kind r.day }
    ∷ record { part = ValueLength; holds = len_rule r.kind r.len }
    ∷ record { part = Value; holds = all_zero (drop r.len r.value) }
    ∷ []

-- the first rule that does not hold
abbrev pub first_broken : List Rule → Option RecordFault
first_broken [] = None
first_broken (r ∷ rs) = cond r.holds (first_broken rs) (Some (Malformed r.part))

-- why bytes are no record, if they are none
abbrev pub fault_of : List ℕ → Option RecordFault
fault_of bs = cond (length bs == 48) (first_broken (rules (row_at bs))) (Some Length)

-- what a lawful row says
abbrev pub mutation_in : Row → Mutation
mutation_in r = cond (r.kind == 1)
    (deletion r.section r.first r.last (record { stamp = r.stamp; day = r.day }))
    (entry r.section r.first r.field (record { stamp = r.stamp; rank = r.kind - 2; day = r.day; value = take r.len r.value }))

-- the fault, or what there is without one
abbrev pub unless_fault : {A : Type 0} → Option RecordFault → A → Result A RecordFault
unless_fault None x = Ok x
unless_fault (Some f) x = Err f

-- the record that bytes write, or their fault
abbrev pub decoded : List ℕ → Result Mutation RecordFault
decoded bs = unless_fault (fault_of bs) (mutation_in (row_at bs))

-- the row that says it
abbrev pub row_of : Mutation → Row
row_of (deletion s first last t) = record {
  kind = 1;
  field = 0;
  section = s;
  first = first;
  last = last;
  stamp = t.stamp;
  day = t.day;
  len = 0;
  value = replicate 23 0;
}
row_of (entry s p f c) = record {
  kind = 2 + c.rank;
  field = f;
  section = s;
  first = p;
  last = p;
  stamp = c.stamp;
  day = c.day;
  len = length c.value;
  value = c.value ++ replicate (23 - length c.value) 0;
}

-- a row says this, and is the row that says it
pub record IsRowOf (m : Mutation) (r : Row) : Type 0 where
  pub row : r ≡ row_of m
  pub says : mutation_in r ≡ m

-- bytes write a row, and are the bytes of it
pub record IsBytesOf (r : Row) (bs : List ℕ) : Type 0 where
  pub bytes : bs ≡ row_bytes r
  pub row : row_at bs ≡ r

-- the bytes that say it
abbrev pub encoded : Mutation → List ℕ
encoded m = row_bytes (row_of m)

-- what was decoded, as plain numbers
abbrev pub outcome : Result Record RecordFault → Result Mutation RecordFault
outcome (Ok r) = Ok (says r)
outcome (Err f) = Err f
