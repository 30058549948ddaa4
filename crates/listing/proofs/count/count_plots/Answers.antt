use Rattle.std.proofs.Common.{map}
use Rattle.records.specs.Meaning.{says}
use Rattle.listing.proofs.Counts.{plots_counted}
use Rattle.listing.proofs.count.count_plots.Goals as goal

pub returns : goal.returns
returns c =
    let l = c.loop-number in
    let i = l.invariant in
    plots_counted (map says c.args.records.now) c.args.section l.plot.number l.listed l.free ((rw i.section at c.in_default.ensures) i.low) i.listed i.free
