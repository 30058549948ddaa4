-- A sheet in words: what each line says, byte by byte.
use Rattle.std.specs.Prelude.{ℕ, ◌/◌, ◌%◌, Bool, false, cond, not, ◌&&◌, List, [], ◌∷◌, ◌++◌, Ok, Err, codes, decimal, Result, ◌==◌, nat_le}
use Rattle.std.specs.List.{list_all, flat_map}
use Rattle.std.specs.Fmt.{digit_glyph}
use Rattle.records.specs.Content.{Mutation, deletion, entry}
use Rattle.layout.specs.declared.part.Part.{Part}
use Rattle.layout.specs.declared.part.Part.TheVariants.{Kind, Field, Section, FirstPlot, LastPlot, Stamp, Day, ValueLength, Value}
use Rattle.layout.specs.declared.fault.RecordFault.{RecordFault}
use Rattle.layout.specs.declared.fault.RecordFault.TheVariants.{Length, Malformed}
use Rattle.layout.specs.declared.fault.Refusal.{Refusal}
use Rattle.layout.specs.Faults.{number_of, refusal_of}
use Rattle.listing.specs.declared.section.SectionCount.{SectionCount}

-- a byte that is printed as it is: ASCII from space to tilde, but for the quote and the backslash
abbrev pub is_plain : ℕ → Bool
is_plain b = nat_le 32 b && (nat_le b 126 && (not (b == 34) && not (b == 92)))

-- a byte as two digits
abbrev pub hex_pair : ℕ → List ℕ
hex_pair b = digit_glyph false (b / 16) ∷ digit_glyph false (b % 16) ∷ []

-- a value in quotes, or in hex where it has a byte that is not printed as it is
abbrev pub value_text : List ℕ → List ℕ
value_text v = cond (list_all is_plain v) (codes "\"" ++ (v ++ codes "\"")) (codes "0x" ++ flat_map hex_pair v)

abbrev pub plots_text : ℕ → ℕ → ℕ → List ℕ
plots_text s first last = codes "section " ++ (decimal s ++ (codes ", plots " ++ (decimal first ++ (codes " to " ++ decimal last))))

abbrev pub place_text : ℕ → ℕ → ℕ → List ℕ
place_text s p f = codes "section " ++ (decimal s ++ (codes ", plot " ++ (decimal p ++ (codes ", field " ++ decimal f))))

-- a live cell has rank 0
abbrev pub kind_text : ℕ → List ℕ
kind_text rank = cond (rank == 0) (codes "live") (codes "cleared")

abbrev pub state_text : ℕ → ℕ → List ℕ → List ℕ
state_text rank day v = cond (rank == 0) (codes "value " ++ value_text v) (codes "day " ++ decimal day)

-- what a record says
abbrev pub record_text : Mutation → List ℕ
record_text (deletion s first last t) = codes "deletion, " ++ (plots_text s first last ++ (codes ", stamp " ++ (decimal t.stamp ++ (codes ", day " ++ decimal t.day))))
record_text (entry s p f c) = kind_text c.rank ++ (codes " cell, " ++ (place_text s p f ++ (codes ", stamp " ++ (decimal c.stamp ++ (codes ", " ++ state_text c.rank c.day c.value)))))

abbrev pub part_text : Part → List ℕ
part_text Kind = codes "kind"
part_text Field = codes "field"
part_text Section = codes "section"
part_text FirstPlot = codes "first plot"
part_text LastPlot = codes "last plot"
part_text Stamp = codes "stamp"
part_text Day = codes "day"
part_text ValueLength = codes "value length"
part_text Value = codes "value"

-- how a refusal begins
abbrev pub refused_text : Refusal → List ℕ
refused_text r = codes "refused, " ++ decimal (number_of r.number)

-- why bytes are no record
abbrev pub fault_text : RecordFault → List ℕ
fault_text Length = refused_text (refusal_of Length) ++ codes " length: not 48 bytes"
fault_text (Malformed part) = refused_text (refusal_of (Malformed part)) ++ (codes " malformed at byte " ++ (decimal (refusal_of (Malformed part)).byte ++ (codes ": " ++ part_text part)))

abbrev pub outcome_text : Result Mutation RecordFault → List ℕ
outcome_text (Ok m) = record_text m
outcome_text (Err f) = fault_text f

-- the line of the record with this index
abbrev pub record_line : ℕ → Result Mutation RecordFault → List ℕ
record_line index read = codes "record " ++ (decimal index ++ (codes ": " ++ outcome_text read))

abbrev pub section_line : SectionCount → List ℕ
section_line c = codes "section " ++ (decimal c.section ++ (codes ": " ++ (decimal c.plots.listed ++ (codes " listed, " ++ (decimal c.plots.free ++ codes " free")))))
