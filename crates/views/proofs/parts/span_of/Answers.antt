use Rattle.std.proofs.Common.{sym}
use Rattle.views.proofs.Significant.{part_shown}
use Rattle.views.proofs.parts.span_of.Goals as goal

pub returns : goal.returns
returns c skips marked = part_shown skips c.args.tokens.now.items c.place-place.result c.args.k c.start_of-start.result c.kind.result c.in-Some.token marked
    (sym c.in-Some.ensures) c.place-place.ensures.before c.place-place.ensures.at c.start_of-start.ensures.is c.kind.ensures
