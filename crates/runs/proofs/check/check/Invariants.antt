use Rattle.runs.proofs.Checked.{Checked}
use Rattle.runs.proofs.check.check.Given as goal

abbrev pub invariant-loop-index : goal.invariant-loop-index
invariant-loop-index l = Checked l.bytes l.over l.index
