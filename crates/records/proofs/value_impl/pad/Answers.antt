use Rattle.records.proofs.Zeros.{front_is, rest_is}
use Rattle.records.proofs.value_impl.pad.Goals as goal

pub returns : goal.returns
returns c =
    let e = c.copy_from_slice.ensures.after in
    record { front = front_is _ c.args.src.now _ e; rest = rest_is _ c.args.src.now 23 e }
