use Rattle.colours.proofs.Std.{◌==◌, ◌||◌, not, ◌+◌, ◌∙◌, ap}
use Rattle.colours.proofs.NextPosition.{position-other, position-return}
use Rattle.colours.proofs.steps.after.Goals as goal

pub returns-then-c-eq13 : goal.returns-then-c-eq13
returns-then-c-eq13 c text rest i here on is =
    position-return c.args.unit text rest i c.args.c c.args.position here is on (ap (λ d. not (d == 10 || d == 13)) c.if-c-eq13.true)

pub returns : goal.returns
returns c text rest i here on is =
    ap (λ n. record { line = c.args.position.line; character = c.args.position.character + n }) c.units_of.ensures.is
    ∙ position-other c.args.unit text rest i c.args.c c.args.position here is on c.if-c-eq13.false
