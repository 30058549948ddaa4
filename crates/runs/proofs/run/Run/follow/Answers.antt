use Rattle.std.proofs.Common.{◌≡◌, ℕ, Some, ◌-◌, ◌/◌, ◌<◌, false, length, sym, refl, ap, ◌∙◌, arith}
use Rattle.std.proofs.lemmas.Bool.Decides.{nat_tests}
use Rattle.records.specs.Meaning.{says}
use Rattle.layout.specs.Pieces.{mutation_at}
use Rattle.canon.specs.Run.{apart}
use Rattle.canon.proofs.Pairs.{ascends-says}
use Rattle.runs.specs.declared.fault.RunFault.TheVariants.{Order}
use Rattle.runs.specs.declared.fault.Disorder.TheVariants.{Unsorted}
use Rattle.runs.specs.Records.{records_in}
use Rattle.runs.specs.Faults.{order_fault}
use Rattle.runs.specs.Opened.{bytes_in, size}
use Rattle.runs.proofs.Followed.{passed_all, may_follow, unsorted, clashes}
use Rattle.runs.proofs.run.Run.follow.Goals as goal
use Rattle.runs.proofs.run.Run.follow.Goals.{After-ascends, else-apart-via-then-apart+else-apart-2, then-over-index, else-over-index, else-apart-via-else-apart}

pub returns-in_default-clause-fault : goal.returns-in_default-clause-fault
returns-in_default-clause-fault c =
    let run = c.args.self.now.run in
    let all = passed_all run _ refl c.requires c.advance-over.ensures.rises.1 c.advance-over.ensures.behind (λ l. absurd (omega arith)) in
    sym (may_follow run _ refl all c.advance-over.ensures.stops (λ l. absurd (omega arith)) (λ l. absurd (omega arith)))

-- the record before it is the last of the run
last : (c : After-ascends) → says c.at-last.result ≡ mutation_at (bytes_in c.args.self.now) (size c.args.self.now - 1)
last c = let i : c.in-Some.end ≡ size c.args.self.now - 1 = omega arith in c.at-last.ensures ∙ ap (mutation_at (bytes_in c.args.self.now)) i

pub returns-then-not-ascends-clause-fault : goal.returns-then-not-ascends-clause-fault
returns-then-not-ascends-clause-fault c =
    (λ j. Some (Order (c.len-index.ensures j) Unsorted))
    ∙ sym (unsorted c.args.self.now.run _ (last (goal.at.returns-then-not-ascends-clause-fault c).After-ascends) (omega arith) (sym c.ascends.ensures ∙ c.if-not-ascends.true))

pub returns-then-apart-2 : goal.returns-then-apart-2
returns-then-apart-2 c =
    let run = c.args.self.now.run in
    let m = says c.args.«record».now in
    let x = last (goal.at.returns-then-apart-2 c).After-ascends in
    let up = sym c.ascends.ensures ∙ c.if-not-ascends.false in
    let all = passed_all run _ x c.requires c.advance-over.ensures.rises.1 c.advance-over.ensures.behind (λ l. ascends-says (says c.at-last.result) m up) in
    record {
      fault = sym (may_follow run _ x all c.advance-over.ensures.stops (λ l. (up, sym c.apart.ensures ∙ c.if-apart.true))
          (λ l. elim c.if-over-index.branch [
            | then-over-index w ↦ absurd (omega arith)
            | else-over-index w ↦ ap (λ y. apart y m) (sym w.at.ensures) ∙ sym w.apart-else-over-index.ensures ∙ sym w.value-is ∙ c.if-apart-2.true
          ]));
      next = all;
    }

pub returns-else-apart-clause-fault : goal.returns-else-apart-clause-fault
returns-else-apart-clause-fault c =
    let bs = bytes_in c.args.self.now in
    let m = says c.args.«record».now in
    let x = last (goal.at.returns-else-apart-clause-fault c).After-ascends in
    let out : (k : ℕ) → k < length bs / 48 → apart (mutation_at bs k) m ≡ false → Some (Order c.len-index.result c.clash.result) ≡ order_fault (records_in bs) m = λ k l n.
    (λ j. Some (Order (c.len-index.ensures j) (c.clash.ensures j))) ∙ sym (clashes c.args.self.now.run _ x k l (sym c.ascends.ensures ∙ c.if-not-ascends.false) n)
    in
    elim c.else-apart.branch [
      | else-apart-via-then-apart+else-apart-2 w ↦ elim w.if-over-index.branch [
        | then-over-index v ↦ absurd (grind (arith, nat_tests, v.if-over-index, w.if-apart-2.false))
        | else-over-index v ↦ out c.advance-over.result (omega arith) (ap (λ y. apart y m) (sym v.at.ensures) ∙ sym v.apart-else-over-index.ensures ∙ sym v.value-is ∙ w.if-apart-2.false)
      ]
      | else-apart-via-else-apart w ↦ out (length bs / 48 - 1) (omega arith) (ap (λ y. apart y m) (sym x) ∙ sym c.apart.ensures ∙ w.if-apart.false)
    ]
