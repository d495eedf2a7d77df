use Rattle.trees.proofs.Std.{◌∙◌, ap, sym, subst, length}
use Rattle.trees.proofs.Common.{IsBelow, unpack}
use Rattle.trees.proofs.Slides.{same_next, stands_below}
use Rattle.trees.proofs.node.rename_numbers.Goals as goal

pub bounds-names-id : goal.bounds-names-id
bounds-names-id c =
    let i = c.loop-number.number-index in
    let same = same_next c.loop-number.numbers c.args.numbers.now i 0 c.loop-number.invariant.rest in
    subst (IsBelow (length c.args.names.now)) (ap unpack (sym same) ∙ sym c.unpack.ensures ∙ c.in-Node.is)
    (stands_below unpack (length c.args.names.now) c.args.numbers.now i 0 c.requires.below c.loop-number-test.true)
