use Rattle.parser.proofs.Std.{◌∷◌, ap, ◌∙◌}
use Rattle.parser.proofs.Common.{backwards}
use Rattle.parser.proofs.Lists.{backwards-push}
use Rattle.parser.proofs.input.Input.put.Goals as goal

pub returns : goal.returns
returns c = ap backwards c.in_ok-push.ensures.items ∙ backwards-push c.self.inside.items.items c.args.child ∙ ap (λ l. c.args.child ∷ l) c.self.view_is
