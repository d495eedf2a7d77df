use Rattle.colours.proofs.Std.{◌-◌, ◌≡◌, arith, lt-ltb, nat_lt, true}
use Rattle.colours.proofs.encoder.Encoder.push_on.Goals as goal

pub returns-clause-encoded : goal.returns-clause-encoded
returns-clause-encoded c =
    let some : nat_lt 0 (c.args.end - c.args.start) ≡ true = lt-ltb 0 (c.args.end - c.args.start) (omega arith) in
    rw some c.push.ensures.encoded
