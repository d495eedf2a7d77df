use Rattle.states.proofs.Moves.{shifted}
use Rattle.states.proofs.stacks.Stacks.after.Goals as goal

pub push-requires : goal.push-requires
push-requires c =
    shifted c.self-in-loop.inside.tables.now c.level.result.state c.in-Some-Shift.next c.args.look c.in-Some-Shift.field-0 c.level.ensures
    c.in-Some-Shift.ensures.is c.in-Some-Shift.ensures.shifts c.in-Some-Shift.field-0-is
