use Rattle.std.proofs.Common.{◌≡◌, ◌-◌, ◌≤◌, map, count_by}
use Rattle.records.specs.Meaning.{says}
use Rattle.records.specs.Listed.{passing, listed, free}
use Rattle.listing.specs.Fold.{content_in, in_plot}
use Rattle.listing.proofs.count.count_plots.Given as goal

abbrev pub invariant-loop-number : goal.invariant-loop-number
invariant-loop-number l = record {
  section : l.plot.section ≡ l.section;
  low : l.plot.number ≤ 999999;
  listed : l.listed ≡ count_by (listed (content_in l.records) l.section) (passing (in_plot (map says l.records) l.section) l.plot.number);
  free : l.free ≡ count_by (free (content_in l.records) l.section) (passing (in_plot (map says l.records) l.section) l.plot.number);
}

abbrev pub decreases-loop-number : goal.decreases-loop-number
decreases-loop-number l = 999999 - l.plot.number
