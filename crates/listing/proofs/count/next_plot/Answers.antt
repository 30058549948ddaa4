use Rattle.std.proofs.Common.{ltb, sym, ◌∙◌, rules, tests}
use Rattle.std.proofs.lemmas.Iterator.{YieldsList-from_slice}
use Rattle.std.proofs.lemmas.Iterator.Adapters.{option_map_id}
use Rattle.std.proofs.lemmas.Iterator.Consumers.{YieldsList-at, YieldsList-from_filter, YieldsList-from_filter_map, min_from_yields_List}
use Rattle.records.specs.Meaning.{says}
use Rattle.listing.specs.Fold.{plot_in}
use Rattle.listing.proofs.Counts.{next_plot_is}
use Rattle.listing.proofs.count.next_plot.Goals as goal

pub returns : goal.returns
returns c =
    let rs = c.args.records.now in
    let a = c.args.after in
    next_plot_is rs a.section a.number c.min.result
    (sym (option_map_id _) ∙ min_from_yields_List _ _ c.min.ensures.ran
    (YieldsList-from_filter _ (ltb a.number)
    (YieldsList-at c.filter.ensures.source (YieldsList-from_filter_map _ (λ r. plot_in a.section (says r)) (YieldsList-at c.filter_map.ensures.source (YieldsList-from_slice rs cc)) c.filter_map.ensures.closure (λ x r q k. search rules)))
    c.filter.ensures.closure (λ x b q k. search (rules, tests))))
