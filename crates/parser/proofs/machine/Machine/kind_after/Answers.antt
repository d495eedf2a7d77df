use Rattle.parser.proofs.Std.{◌≡◌, ◌+◌, length, slice_get, ap, ◌∙◌, arith}
use Rattle.parser.proofs.Common.{yield, plain, Node, tree}
use Rattle.parser.proofs.SecondKind.{second_is}
use Rattle.parser.proofs.Reusing.{counted}
use Rattle.parser.proofs.machine.Machine.kind_after.Goals as goal

pub returns-in-Some-clause-is : goal.returns-in-Some-clause-is
returns-in-Some-clause-is g c =
    let found = c.in-Some.ensures in
    second_is c.args.store.now c.args.kinds.now c.args.self.now.read c.args.id c.args.input.now c.requires.first.0 found.1
    found.0 c.in-Some.kind found.2 c.requires.first.1 found.3 found.4 c.requires.covers

pub returns-clause-is : goal.returns-clause-is
returns-clause-is g c =
    let n = length (yield (plain (tree c.args.store.now (Node c.args.id)))) in
    let count : c.tokens.result ≡ n = c.tokens.ensures.is ∙ counted n (omega (arith, c.requires.fits, c.len-count.ensures, c.len-count.type_inv)) in
    c.kind.ensures.is ∙ ap (λ k. slice_get c.args.kinds.now (c.args.self.now.read + k)) count
