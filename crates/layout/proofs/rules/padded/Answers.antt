use Rattle.std.proofs.Common.{◌≡◌, ◌&&◌, ◌-◌, ◌≤◌, eqb, drop, length, refl, ◌∙◌, rules, tests, arith}
use Rattle.std.specs.List.{list_all}
use Rattle.std.proofs.lemmas.List.{take_all, length-drop}
use Rattle.std.proofs.lemmas.Iterator.{YieldsList-from_slice}
use Rattle.std.proofs.lemmas.Iterator.Search.{all_from_yields_List}
use Rattle.std.proofs.lemmas.List.Recursion.{same_from_clauses}
use Rattle.records.specs.Zeros.{all_zero}
use Rattle.layout.proofs.rules.padded.Goals as goal

pub returns : goal.returns
returns c =
    let row = c.args.row.now in
    let rest = drop row.len row.value in
    let whole : length row.value ≡ 23 = search rules in
    let all : length rest ≤ 23 - row.len = omega (arith, whole, length-drop row.len row.value) in
    all_from_yields_List (λ b. eqb b 0) _ _ _ c.all.ensures.ran (YieldsList-from_slice rest (c.iter.ensures.rest ∙ rw c.from.ensures (take_all (23 - row.len) rest all))) (λ x b q k. search (rules, tests))
    ∙ same_from_clauses (list_all (λ b. eqb b 0)) all_zero (λ b z. eqb b 0 && z) refl (λ _ _. refl) (λ b bs. search (rules, tests)) rest
