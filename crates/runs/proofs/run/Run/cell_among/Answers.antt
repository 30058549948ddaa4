use Rattle.std.proofs.Common.{◌∙◌, arith}
use Rattle.runs.proofs.Found.{none_left, next_from}
use Rattle.runs.proofs.run.Run.cell_among.Goals as goal

pub returns-in_err-record : goal.returns-in_err-record
returns-in_err-record c = rw (c.from_residual.ensures) (none_left c.args.self.now.run c.args.place (omega arith) c.requires c.in_err-record.ensures)

pub returns : goal.returns
returns c =
    let v = c.in_ok-record.ensures in
    next_from c.args.self.now.run c.args.place (omega arith) c.requires c.cell_by.result v.within (c.record-2.ensures ∙ v.says) c.cell_by.ensures
