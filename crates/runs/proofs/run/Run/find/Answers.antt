use Rattle.std.proofs.Common.{rules}
use Rattle.runs.proofs.Keys.{less_is}
use Rattle.runs.proofs.Searched.{found}
use Rattle.runs.proofs.run.Run.find.Goals as goal

pub returns : goal.returns
returns c =
    found _ _ _ _ c.partition_point.ensures.partitioned c.partition_point.ensures.bound c.args.self.now.run c.pieces.ensures.len c.pieces.ensures.each
    (λ a r f k. search (rules, less_is))
