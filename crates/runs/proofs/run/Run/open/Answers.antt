use Rattle.std.proofs.Common.{◌<◌, sym, arith}
use Rattle.std.proofs.lemmas.Result.{err_from_is_err_and}
use Rattle.std.proofs.lemmas.List.Elements.{All-from_get_or}
use Rattle.runs.proofs.Opened.{run_bytes_lem, fault_found}
use Rattle.runs.proofs.run.Run.open.Goals as goal

pub returns-in_err-check-clause-means : goal.returns-in_err-check-clause-means
returns-in_err-check-clause-means c =
    let p = err_from_is_err_and c.from_residual.result c.from_residual.ensures.1 in
    rw (p.1, p.2) (fault_found c.args.bytes.now c.in_err-check.field-0.0 (sym c.in_err-check.ensures))

pub invariant_of-result : goal.invariant_of-result
invariant_of-result c =
    record { run = run_bytes_lem c.args.bytes.now (All-from_get_or (λ b. b < 256) c.args.bytes.now 0 (λ i l. omega (arith, c.type_inv.bytes i))) (sym c.in_ok-check.ensures) }
