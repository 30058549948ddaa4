use Rattle.canon.proofs.Examples.{examples_hold}
use Rattle.canon.proofs.RunLaws.{run_laws}
use Rattle.canon.proofs.laws.laws_hold.Goals as goal

pub returns : goal.returns
returns c = record { runs = run_laws; examples = examples_hold }
