use Rattle.std.proofs.Common.{ℕ, Bool, ◌-◌, rules, ◌∙◌}
use Rattle.std.specs.Range.{range_inclusive_len}
use Rattle.std.proofs.lemmas.Iterator.Search.{any_from_yields_List}
use Rattle.records.specs.Content.{is_live}
use Rattle.listing.specs.Fold.{content_in}
use Rattle.listing.proofs.Counts.{range_gives, any_passing}
use Rattle.listing.proofs.count.listed_at.Goals as goal

pub returns : goal.returns
returns c =
    let test : ℕ → Bool = λ f. is_live ((content_in c.args.records.now).cell c.args.plot.section c.args.plot.number f) in
    let r = c.new.ensures in
    any_from_yields_List test _ _ c.any.result c.any.ensures.ran (range_gives c.new.result 1 32 r.start (λ i. range_inclusive_len (λ x y. y - x) (r.start i) (r.end i) (r.exhausted i))) (λ f b q k. search rules)
    ∙ any_passing test 32
