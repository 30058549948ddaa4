use Rattle.std.proofs.Common.{arith}
use Rattle.std.proofs.lemmas.Grind.{common_steps}
use Rattle.records.proofs.Says.{value_padded}
use Rattle.layout.proofs.record.LawfulRowFromRefCell.from.Goals as goal

pub returns : goal.returns
returns c =
    record { row = grind (arith, common_steps, value_padded); says = grind (arith, common_steps, value_padded) }
