use Rattle.parser.proofs.Std.{length, ◌≡◌, arith, sym, subst, ◌∙◌}
use Rattle.parser.proofs.Common.{yield, plain, AreBelow, tree}
use Rattle.parser.proofs.Inputs.{below-gone, none_counted, skips_one, taken}
use Rattle.parser.proofs.input.Input.skip_empty.Goals as goal

pub tokens_of-requires : goal.tokens_of-requires
tokens_of-requires c =
    let n = length c.args.store.now in
    let left = below-gone n c.empty.invariant.0 c.empty.self (subst (AreBelow n) c.empty.invariant.1 c.requires) in
    (subst (AreBelow n) c.in-Some.ensures.1 left).0

pub empty-preserved : goal.empty-preserved
empty-preserved c =
    let child = c.in-Some.child in
    let prefix = taken c.take.result c.empty.self c.take.new.self c.in-Some.ensures.0 child c.take.ensures c.in-Some.ensures.1 in
    let zero_tokens : c.tokens_of.result ≡ 0 = omega (arith, c.if-tokens_of-gt0.false) in
    let empty = none_counted (length (yield (plain (tree c.args.store.now child)))) (sym c.tokens_of.ensures ∙ zero_tokens) in
    skips_one c.args.store.now c.args.self.now c.empty.self c.take.new.self child c.empty.invariant prefix empty
