use Rattle.dfa.proofs.Std.{◌+◌, rules, IfOk-weaker}
use Rattle.dfa.proofs.Trees.{joined_in}
use Rattle.dfa.proofs.tree.Tree.+join.Goals as goal

pub returns-in-Pair : goal.returns-in-Pair
returns-in-Pair t c =
    IfOk-weaker c.join.result _ _ (λ u j. joined_in c.args.is_choice c.in-Pair.is_same c.in-Pair.n (c.count.result + c.count-2.result) _ _ c.in-Pair.a.value
    c.in-Pair.b.value c.deref_mut.result.now c.args.last c.join.new.self c.args.self.now (search rules) c.in-Pair.is c.deref_mut.ensures.value c.requires.counted
    (λ i. c.count.ensures i + c.count-2.ensures i) j) c.join.ensures
