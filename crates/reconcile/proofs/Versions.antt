-- What two cells of one place are compared by: stamp and state, in the order of their versions' keys.
use Rattle.std.proofs.Common.{◌≡◌, ◌==◌, true, false, cond, nat_lt, is_le, sym, ap, ◌∙◌, arith}
use Rattle.std.proofs.lemmas.Bool.Decides.{nat_tests}
use Rattle.records.specs.declared.cell.Cell.{Cell}
use Rattle.records.specs.contracts.state.StateOrd.TheImpl as state_ord
use Rattle.records.specs.Order.{upto}
use Rattle.records.specs.Content.{version_key}
use Rattle.records.specs.Meaning.{version_of}
use Rattle.records.proofs.Order.{state_order}

compared : (a b : Cell) → cond (a.stamp == b.stamp) (is_le ((state_ord.ghosts).cmp a.state b.state)) (nat_lt a.stamp b.stamp) ≡ upto (version_key (version_of a)) (version_key (version_of b))
unfolding version_key
compared a b = ap (λ r. cond (a.stamp == b.stamp) r (nat_lt a.stamp b.stamp)) (state_order a.state b.state)

pub same_stamp : (a b : Cell) → a.stamp ≡ b.stamp → is_le ((state_ord.ghosts).cmp a.state b.state) ≡ upto (version_key (version_of a)) (version_key (version_of b))
same_stamp a b e =
    let t : (a.stamp == b.stamp) ≡ true = grind (arith, nat_tests) in
    ap (λ t. cond t (is_le ((state_ord.ghosts).cmp a.state b.state)) (nat_lt a.stamp b.stamp)) (sym t) ∙ compared a b

pub other_stamp : (a b : Cell) → (a.stamp ≡ b.stamp → ⊥) → nat_lt a.stamp b.stamp ≡ upto (version_key (version_of a)) (version_key (version_of b))
other_stamp a b n =
    let t : (a.stamp == b.stamp) ≡ false = grind (arith, nat_tests) in
    ap (λ t. cond t (is_le ((state_ord.ghosts).cmp a.state b.state)) (nat_lt a.stamp b.stamp)) (sym t) ∙ compared a b
