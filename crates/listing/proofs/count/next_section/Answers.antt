use Rattle.std.proofs.Common.{ltb, sym, ◌∙◌, rules, tests}
use Rattle.std.proofs.lemmas.Iterator.{YieldsList-from_slice, YieldsList-from_map}
use Rattle.std.proofs.lemmas.Iterator.Adapters.{option_map_id}
use Rattle.std.proofs.lemmas.Iterator.Consumers.{YieldsList-at, YieldsList-from_filter, min_from_yields_List}
use Rattle.records.specs.Meaning.{says}
use Rattle.listing.specs.Fold.{section_of}
use Rattle.listing.proofs.Counts.{next_section_is}
use Rattle.listing.proofs.count.next_section.Goals as goal

pub returns : goal.returns
returns c =
    let rs = c.args.records.now in
    next_section_is rs c.args.after c.min.result
    (sym (option_map_id _) ∙ min_from_yields_List _ _ c.min.ensures.ran
    (YieldsList-from_filter _ (ltb c.args.after)
    (YieldsList-at c.filter.ensures.source (YieldsList-from_map _ (λ r. section_of (says r)) (YieldsList-at c.map.ensures.source (YieldsList-from_slice rs cc)) c.map.ensures.closure (λ x r q k. search rules)))
    c.filter.ensures.closure (λ x b q k. search (rules, tests))))
