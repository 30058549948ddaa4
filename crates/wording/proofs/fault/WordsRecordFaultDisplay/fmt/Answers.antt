use Rattle.std.proofs.Output.{has_written_of_eq}
use Rattle.wording.proofs.fault.WordsRecordFaultDisplay.fmt.Goals as goal

pub returns-in-Malformed-clause-writes : goal.returns-in-Malformed-clause-writes
returns-in-Malformed-clause-writes g c =
    λ plain ok. has_written_of_eq _ _ _ _ _ (rw (c.refusal-refusal.ensures, c.in-Malformed.is)) (c.write-in-Malformed.ensures.writes plain ok)
