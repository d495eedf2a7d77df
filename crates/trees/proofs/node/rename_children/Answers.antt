use Rattle.trees.proofs.Std.{rules, ◌<◌, length}
use Rattle.trees.proofs.Common.{Rule, Node, Token}
use Rattle.trees.proofs.Slides.{next_below}
use Rattle.trees.proofs.node.rename_children.Goals as goal

pub offset_bounds-names-id : goal.offset_bounds-names-id
offset_bounds-names-id c =
    let below : c.in-Node.id.index < length c.args.names.now = next_below (length c.args.names.now) c.loop-child.children c.args.children.now c.loop-child.child-index
    (Token (Rule 0)) (Node c.in-Node.id) c.loop-child.invariant.rest c.requires c.loop-child-test.true c.in-Node.is in
    search rules

pub bounds-names-id : goal.bounds-names-id
bounds-names-id c = next_below (length c.args.names.now) c.loop-child.children c.args.children.now c.loop-child.child-index (Token (Rule 0))
    (Node c.in-Node.id) c.loop-child.invariant.rest c.requires c.loop-child-test.true c.in-Node.is
