-- What a record's fault is called.
use Rattle.std.specs.Prelude.{ℕ}
use Rattle.layout.specs.declared.part.Part.{Part}
use Rattle.layout.specs.declared.part.Part.TheVariants.{Kind, Field, Section, FirstPlot, LastPlot, Stamp, Day, ValueLength, Value}
use Rattle.layout.specs.declared.fault.RecordFault.{RecordFault}
use Rattle.layout.specs.declared.fault.RecordFault.TheVariants.{Length, Malformed}
use Rattle.layout.specs.declared.fault.Reason.{Reason}
use Rattle.layout.specs.declared.fault.Reason.TheVariants as reason
use Rattle.layout.specs.declared.fault.Layer.{Layer}
use Rattle.layout.specs.declared.fault.Layer.TheVariants as layer
use Rattle.layout.specs.declared.fault.Refusal.{Refusal}

-- the first byte of each row of the layout's table
abbrev pub first_byte : Part → ℕ
first_byte Kind = 0
first_byte Field = 1
first_byte Section = 2
first_byte FirstPlot = 4
first_byte LastPlot = 8
first_byte Stamp = 12
first_byte Day = 20
first_byte ValueLength = 24
first_byte Value = 25

-- the numbers of the table of refusals
abbrev pub number_of : Reason → ℕ
number_of reason.Length = 1
number_of reason.Malformed = 2
number_of reason.Order = 3
number_of reason.Empty = 4
number_of reason.Choice = 5
number_of reason.Outside = 6
number_of reason.TooOld = 7
number_of reason.Full = 8
number_of reason.Runs = 9
number_of reason.Area = 10
number_of reason.Scratch = 11
number_of reason.Few = 12
number_of reason.Answers = 13

-- the numbers of the layers
abbrev pub number_of_layer : Layer → ℕ
number_of_layer layer.Record = 1
number_of_layer layer.Run = 2
number_of_layer layer.Source = 3
number_of_layer layer.Trio = 4

-- 1 length, 2 malformed, both of layer 1
abbrev pub refusal_of : RecordFault → Refusal
refusal_of Length = record { number = reason.Length; layer = layer.Record; index = 0; byte = 0 }
refusal_of (Malformed part) = record { number = reason.Malformed; layer = layer.Record; index = 0; byte = first_byte part }
