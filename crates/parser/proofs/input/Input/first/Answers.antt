use Rattle.parser.proofs.Std.{◌≡◌, ◌<◌, ◌-◌, length, take, get_or, sym, ◌∙◌, rules}
use Rattle.parser.proofs.Common.{backwards}
use Rattle.parser.proofs.Lists.{backwards-last}
use Rattle.parser.proofs.input.Input.first.Goals as goal

pub returns-else-n-eq0 : goal.returns-else-n-eq0
returns-else-n-eq0 c =
    let n : 0 < length c.self.inside.items.items = search rules in
    let e : c.index.result.now ≡ get_or c.self.inside.items.items (length c.self.inside.items.items - 1) c.index.result.now = search rules in
    (backwards (take (length c.self.inside.items.items - 1) c.self.inside.items.items), sym c.self.view_is ∙ backwards-last c.self.inside.items.items c.index.result.now n e)
