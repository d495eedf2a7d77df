use Rattle.dfa.proofs.Std.{IfOk-weaker}
use Rattle.dfa.proofs.Trees.{choice_tree, sequence_tree}
use Rattle.dfa.proofs.tree.+put.Goals as goal

pub returns-in_ok-put-in-Sequence-2 : goal.returns-in_ok-put-in-Sequence-2
returns-in_ok-put-in-Sequence-2 t c =
    IfOk-weaker c.grow.result _ _ (λ r j. sequence_tree _ _ c.args.e.now c.in-Sequence.a.value c.in-Sequence.b.value c.deref-in-Sequence.result.now
    c.deref-in-Sequence-2.result.now c.put.new.tree c.put-in-Sequence.new.tree c.grow.new.tree c.in-Sequence.is c.deref-in-Sequence.ensures
    c.deref-in-Sequence-2.ensures c.in_ok-put-in-Sequence.ensures c.in_ok-put-in-Sequence-2.ensures j) c.grow.ensures

pub returns-in_ok-put-in-Choice-2 : goal.returns-in_ok-put-in-Choice-2
returns-in_ok-put-in-Choice-2 t c =
    IfOk-weaker c.grow-in-Choice.result _ _ (λ r j. choice_tree _ _ c.args.e.now c.in-Choice.a.value c.in-Choice.b.value c.deref-in-Choice.result.now
    c.deref-in-Choice-2.result.now c.put-in-Choice.new.tree c.put-in-Choice-2.new.tree c.grow-in-Choice.new.tree c.in-Choice.is c.deref-in-Choice.ensures
    c.deref-in-Choice-2.ensures c.in_ok-put-in-Choice.ensures c.in_ok-put-in-Choice-2.ensures j) c.grow-in-Choice.ensures
