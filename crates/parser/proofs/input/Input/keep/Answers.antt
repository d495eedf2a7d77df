use Rattle.parser.proofs.Std.{◌-◌, ◌≤◌, length, drop, ap, ◌∙◌, arith}
use Rattle.parser.proofs.Common.{backwards}
use Rattle.parser.proofs.Lists.{backwards-take, backwards-length}
use Rattle.parser.proofs.input.Input.keep.Goals as goal

pub returns : goal.returns
returns c =
    let le : c.args.n ≤ length c.self.inside.items.items = omega (arith, c.requires, ap length c.self.view_is, backwards-length c.self.inside.items.items) in
    ap backwards c.truncate.ensures.items ∙ backwards-take c.args.n c.self.inside.items.items le ∙ ap (λ l. drop (length l - c.args.n) l) c.self.view_is
