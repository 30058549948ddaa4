use Rattle.std.proofs.Common.{rules, subst, sym, ap, ◌∙◌}
use Rattle.std.proofs.lemmas.Iterator.{YieldsList-from_slice}
use Rattle.std.proofs.lemmas.Iterator.Consumers.{YieldsList-at, YieldsList-from_filter_map}
use Rattle.std.specs.Option.{option_map}
use Rattle.records.specs.Meaning.{version_of}
use Rattle.listing.specs.Fold.{At}
use Rattle.listing.proofs.Folds.{cell_in, cell_told, pick, pick_is, greatest_is, reduce_told}
use Rattle.listing.proofs.fold.written_at.Goals as goal

pub returns : goal.returns
returns c =
    let p = c.args.place in
    let rs = c.args.records.now in
    let e = reduce_told _ pick c.reduce.result c.reduce.ensures.ran
    (YieldsList-from_filter_map _ (cell_in p) (YieldsList-at c.filter_map.ensures.source (YieldsList-from_slice rs cc)) c.filter_map.ensures.closure (λ x r q k. search (rules, cell_told)))
    (λ a x b q k. search (rules, pick_is)) in
    let h = greatest_is p rs in
    record { version = ap (option_map version_of) e ∙ h.0; place = subst (At p) (sym e) h.1 }
