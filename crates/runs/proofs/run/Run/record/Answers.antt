use Rattle.std.proofs.Common.{◌<◌, length, refl, ◌∙◌, arith}
use Rattle.std.proofs.lemmas.Bool.Decides.{nat_tests}
use Rattle.runs.specs.Opened.{bytes_in}
use Rattle.runs.proofs.Opened.{view_at}
use Rattle.runs.proofs.run.Run.record.Goals as goal

pub returns : goal.returns
returns c =
    let g = c.in_ok-bytes.ensures.lookup in
    let l : c.args.index < length c.pieces.result.now = grind (arith, nat_tests, g.0) in
    view_at (bytes_in c.args.self.now) c.args.index _ (omega arith) (g.1 ∙ c.pieces.ensures.each c.args.index _ l) refl
