-- Which values are equal.
use Rattle.std.specs.Prelude.{Bool, nat_eq}
use Rattle.std.specs.Ordering.{eq_of_both, on}
use Rattle.std.specs.Cmp.Lexicographic.{pointwise}
use Rattle.records.specs.declared.value.Value.{Value}

-- those of equal length with equal bytes
abbrev pub value_eq : Value → Value → Bool
value_eq = eq_of_both (on (λ v. v.len) nat_eq) (on (λ v. v.bytes) (pointwise nat_eq))
