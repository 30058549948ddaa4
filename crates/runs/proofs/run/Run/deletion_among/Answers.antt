use Rattle.std.proofs.Common.{ap, ◌∙◌, arith}
use Rattle.layout.specs.Pieces.{mutation_at}
use Rattle.runs.specs.Opened.{bytes_in}
use Rattle.runs.proofs.Found.{none_over, over_from}
use Rattle.runs.proofs.run.Run.deletion_among.Goals as goal

pub returns-in_err-checked_sub : goal.returns-in_err-checked_sub
returns-in_err-checked_sub c = rw (c.from_residual.ensures) (none_over c.args.self.now.run c.requires (omega (arith, c.in_err-checked_sub.ensures)))

pub returns : goal.returns
returns c =
    let i = c.in_ok-checked_sub.ensures in
    over_from c.args.self.now.run c.args.plot c.deletion_by.result c.requires (omega (arith, i.0)) (c.at.ensures ∙ ap (mutation_at (bytes_in c.args.self.now)) i.1) c.deletion_by.ensures
