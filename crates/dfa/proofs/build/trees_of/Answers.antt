use Rattle.dfa.proofs.Std.{◌≡◌, ◌+◌, ◌∙◌, ap, arith, drop, get_or}
use Rattle.dfa.proofs.Common.{positions}
use Rattle.dfa.proofs.Loops.{at_element}
use Rattle.dfa.proofs.Trees.{all_trees, one_more_tree, rule_within}
use Rattle.dfa.proofs.build.trees_of.Goals as goal

pub tree_of-requires-clause-few : goal.tree_of-requires-clause-few
tree_of-requires-clause-few c =
    let within = rule_within c.args.patterns.now c.loop-pattern.pattern-index c.pattern-item.result c.loop-pattern-test.true in
    let here : positions c.expression.result.now ≡ positions (get_or c.args.patterns.now c.loop-pattern.pattern-index c.pattern-item.result) =
    ap positions (c.expression.ensures.value ∙ c.pattern-item.is) in
    omega (arith, c.requires, within, here)

pub loop-pattern-preserved : goal.loop-pattern-preserved
loop-pattern-preserved c =
    let patterns = c.args.patterns.now in
    let i = c.loop-pattern.pattern-index in
    let x = c.pattern-item.result in
    let e = c.expression.result.now in
    let here = at_element patterns i x e c.expression.ensures.value c.loop-pattern-test.true c.pattern-item.is in
    one_more_tree patterns (drop i patterns) (drop (i + 1) patterns) e c.loop-pattern.trees.items c.push.new.self.items c.in_ok-tree_of.field-0
    here c.in_ok-push.ensures.items c.in_ok-tree_of.ensures c.loop-pattern.invariant

pub returns : goal.returns
returns c = all_trees c.args.patterns.now c.loop-pattern.pattern-index c.loop-pattern.trees.items c.loop-pattern-test.false c.loop-pattern.invariant
