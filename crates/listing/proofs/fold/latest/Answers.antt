use Rattle.std.proofs.Common.{rules, ◌∙◌}
use Rattle.std.proofs.lemmas.Iterator.{YieldsList-from_slice}
use Rattle.std.proofs.lemmas.Iterator.Consumers.{fold_from_yields_List}
use Rattle.records.specs.Content.{later, one}
use Rattle.records.specs.Meaning.{says}
use Rattle.listing.proofs.Folds.{cover_from}
use Rattle.listing.proofs.fold.latest.Goals as goal

pub returns : goal.returns
returns c =
    let p = c.args.plot in
    let rs = c.args.records.now in
    fold_from_yields_List _ (λ t r. later t ((one (says r)).cover p.section p.number)) c.args.cover c.fold.result c.fold.ensures.ran (YieldsList-from_slice rs cc) (λ t x u q k. search rules)
    ∙ cover_from p.section p.number c.args.cover rs
