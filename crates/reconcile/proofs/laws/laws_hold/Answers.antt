use Rattle.reconcile.proofs.Examples.{examples_hold}
use Rattle.reconcile.proofs.Joins.{join_laws, order_laws, content_laws}
use Rattle.reconcile.proofs.Places.{later_laws, greater_laws}
use Rattle.reconcile.proofs.laws.laws_hold.Goals as goal

pub returns : goal.returns
returns c = record { later = later_laws; greater = greater_laws; join = join_laws; order = order_laws; content = content_laws; examples = examples_hold }
