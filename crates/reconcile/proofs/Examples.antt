-- The worked examples hold, since both sides compute.
use Rattle.std.proofs.Common.{refl}
use Rattle.records.specs.Content.{tombstone_key, version_key}
use Rattle.reconcile.specs.Examples.{ExamplesHold}

pub examples_hold : ExamplesHold
unfolding tombstone_key version_key
examples_hold = ((refl, refl), ((refl, refl), ((refl, refl), ((refl, refl), ((refl, refl), tt)))))
