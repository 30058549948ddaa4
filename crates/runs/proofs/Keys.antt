-- The order of keys, as the code compares them.
use Rattle.std.proofs.Common.{◌≡◌, not, rules}
use Rattle.std.specs.Ordering.{partial_lt}
use Rattle.records.specs.Order.{upto}
use Rattle.runs.specs.declared.key.Key.{Key}
use Rattle.runs.specs.Keys.{numbers_of}
use Rattle.runs.specs.contracts.key.KeyPartialOrd.TheImpl as order

-- the derived order is that of the keys' numbers
pub less_is : (x y : Key) → partial_lt order.partial_cmp-value.it x y ≡ not (upto (numbers_of y) (numbers_of x))
less_is x y = search rules
