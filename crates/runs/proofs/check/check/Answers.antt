use Rattle.std.proofs.Common.{◌<◌, ◌/◌, length, sym, arith}
use Rattle.std.proofs.lemmas.Bool.Decides.{nat_tests}
use Rattle.std.proofs.lemmas.Result.{err_from_is_err_and}
use Rattle.std.proofs.lemmas.List.Elements.{All-from_get_or}
use Rattle.runs.proofs.Opened.{length_fault}
use Rattle.runs.proofs.Checked.{checked_none, checked_all, stops_malformed, run_before, passed_before, stops_disordered, checked_more}
use Rattle.runs.proofs.check.check.Goals as goal
use Rattle.runs.proofs.check.check.Goals.{After-decode_at}

pub returns-then-not-is_empty : goal.returns-then-not-is_empty
returns-then-not-is_empty c = sym (length_fault c.args.bytes.now (λ e. grind (arith, nat_tests, c.as_chunks.ensures.back_len, c.is_empty.ensures, c.if-not-is_empty.true)))

pub loop-index-init : goal.loop-index-init
loop-index-init c = checked_none (grind (arith, nat_tests, c.as_chunks.ensures.back_len, c.is_empty.ensures, c.if-not-is_empty.false))

-- the i-th record is one of them
more : (c : After-decode_at) → c.loop-index.index < length c.args.bytes.now / 48
more c = omega (arith, c.as_chunks.ensures.front_len)

pub returns-in_err-record : goal.returns-in_err-record
returns-in_err-record c =
    let p = err_from_is_err_and c.from_residual.result c.from_residual.ensures.1 in
    let e = c.in_err-record.ensures in
    rw (p.1, p.2) (sym (stops_malformed c.loop-index.invariant (more (goal.at.returns-in_err-record c).After-decode_at)
    c.as_chunks.ensures.front c.in_err-record.field-0.0 e.0 e.1))

pub invariant_of-before : goal.invariant_of-before
invariant_of-before c =
    record {
      run = run_before c.loop-index.invariant (more (goal.at.invariant_of-before c).After-decode_at)
          (All-from_get_or (λ b. b < 256) c.args.bytes.now 0 (λ i l. omega (arith, c.type_inv.bytes i)));
    }

pub follow-requires : goal.follow-requires
follow-requires c = passed_before c.loop-index.invariant (more (goal.at.follow-requires c).After-decode_at)

pub returns-in_err-over : goal.returns-in_err-over
returns-in_err-over c =
    let p = err_from_is_err_and c.from_residual-in_err-over.result c.from_residual-in_err-over.ensures.1 in
    let d = c.in_ok-record.ensures in
    rw (p.1, p.2) (sym (stops_disordered c.loop-index.invariant (more (goal.at.returns-in_err-over c).After-decode_at)
    c.as_chunks.ensures.front d.0 d.1 c.in_err-over.field-0.0 c.in_err-over.ensures.fault))

pub loop-index-preserved : goal.loop-index-preserved
loop-index-preserved c =
    let d = c.in_ok-record.ensures in
    checked_more c.loop-index.invariant (more (goal.at.loop-index-preserved c).After-decode_at)
    c.as_chunks.ensures.front d.0 d.1 c.in_ok-over.over c.in_ok-over.ensures.fault c.in_ok-over.ensures.next

pub returns : goal.returns
returns c = sym (checked_all c.loop-index.invariant (omega (arith, c.as_chunks.ensures.front_len)))
