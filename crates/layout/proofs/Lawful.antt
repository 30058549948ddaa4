-- What the rules say of a row that breaks none.
use Rattle.std.proofs.Common.{◌≡◌, ◌≤◌, true, drop, None, arith}
use Rattle.std.proofs.lemmas.Bool.Decides.{nat_tests}
use Rattle.records.specs.Zeros.{all_zero}
use Rattle.records.specs.Ranges.{in_range}
use Rattle.layout.specs.declared.row.Row.{Row}
use Rattle.layout.specs.Layout.{rules, first_broken, mutation_in}

module _ (r : Row) (e : first_broken (rules r) ≡ None) where
  pub kind_low : 1 ≤ r.kind
  kind_low = grind (arith, nat_tests)

  pub len_high : r.len ≤ 23
  len_high = grind (arith, nat_tests)

  pub padded : all_zero (drop r.len r.value) ≡ true
  padded = grind (arith, nat_tests)

  pub no_value : (r.kind ≡ 2 → ⊥) → r.len ≡ 0
  no_value k = grind (arith, nat_tests)

  pub one_plot : (r.kind ≡ 1 → ⊥) → r.last ≡ r.first
  one_plot k = grind (arith, nat_tests)

  pub no_field : r.kind ≡ 1 → r.field ≡ 0
  no_field k = grind (arith, nat_tests)

  pub row_range : in_range (mutation_in r) ≡ true
  row_range = grind (arith, nat_tests)
