use Rattle.states.proofs.Std.{Some, ap}
use Rattle.states.proofs.descent.shifted.Goals as goal

pub returns-in-Some-Shift : goal.returns-in-Some-Shift
returns-in-Some-Shift c prefix a state kind =
    c.in-Some-Shift.ensures.shifts prefix a c.in-Some-Shift.next state (ap Some kind) (ap Some c.in-Some-Shift.field-0-is)
