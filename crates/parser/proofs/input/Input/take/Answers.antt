use Rattle.std.proofs.Common.{◌≡◌, ◌↔◌, IsSome, vec_len, ◌<◌, length, rules, subst}
use Rattle.parser.proofs.Lists.{popped}
use Rattle.parser.proofs.input.Input.take.Goals as goal

pub returns : goal.returns
returns c =
    let n : vec_len c.self.inside.items ≡ length c.self.inside.items.items = search rules in
    popped c.self.inside.items.items c.pop.new.self.items c.args.self.now c.pop.result c.self.view_is c.pop.ensures.items (subst (λ k. IsSome c.pop.result ↔ (0 < k)) n c.pop.ensures.variant)
