-- A run in words: what its line says, byte by byte.
use Rattle.std.specs.Prelude.{ℕ, List, ◌++◌, Ok, Err, codes, decimal, Result}
use Rattle.runs.specs.declared.fault.Disorder.{Disorder}
use Rattle.runs.specs.declared.fault.Disorder.TheVariants.{Unsorted, Spans, Covered}
use Rattle.runs.specs.declared.fault.RunFault.{RunFault}
use Rattle.runs.specs.declared.fault.RunFault.TheVariants.{Length, Record, Order, Empty}
use Rattle.runs.specs.declared.run.Run.{Run}
use Rattle.runs.specs.Faults.{refusal_of_run}
use Rattle.runs.specs.Opened.{size}
use Rattle.wording.specs.Words.{refused_text, fault_text}

abbrev pub disorder_text : Disorder → List ℕ
disorder_text Unsorted = codes "it does not come after the one before it by section, deletion before cell, plot and field"
disorder_text Spans = codes "it overlaps a deletion before it, or goes on where one of the same stamp and day ends"
disorder_text Covered = codes "a deletion before it covers it"

-- why bytes are no run
abbrev pub run_fault_text : RunFault → List ℕ
run_fault_text Length = codes "no run: " ++ (refused_text (refusal_of_run Length) ++ codes " length: not a multiple of 48 bytes")
run_fault_text (Record at) = codes "no run, record " ++ (decimal at.index ++ (codes ": " ++ fault_text at.fault))
run_fault_text (Order i why) = codes "no run, record " ++ (decimal i ++ (codes ": " ++ (refused_text (refusal_of_run (Order i why)) ++ (codes " order: " ++ disorder_text why))))
run_fault_text Empty = codes "no run: " ++ (refused_text (refusal_of_run Empty) ++ codes " empty: no records")

-- whether bytes are a run
abbrev pub run_line : Result Run RunFault → List ℕ
run_line (Ok run) = codes "a run, records: " ++ decimal (size run)
run_line (Err f) = run_fault_text f
