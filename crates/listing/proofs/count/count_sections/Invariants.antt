use Rattle.std.proofs.Common.{◌≡◌, ◌-◌, ◌≤◌, map, vec_items}
use Rattle.records.specs.Meaning.{says}
use Rattle.records.specs.Listed.{passing}
use Rattle.listing.specs.Fold.{content_in, in_section}
use Rattle.listing.specs.Count.{count_of}
use Rattle.listing.proofs.count.count_sections.Given as goal

abbrev pub invariant-loop-next : goal.invariant-loop-next
invariant-loop-next l = record {
  low : l.section ≤ 9999;
  counts : vec_items l.counts ≡ map (count_of (content_in l.records)) (passing (in_section (map says l.records)) l.section);
}

abbrev pub decreases-loop-next : goal.decreases-loop-next
decreases-loop-next l = 9999 - l.section
