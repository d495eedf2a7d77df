use Rattle.dfa.proofs.Std.{◌++◌, ◌∷◌, [], false, ap, ◌∙◌, append_assoc}
use Rattle.dfa.proofs.Common.{unmarked}
use Rattle.dfa.proofs.JoinedLists.{unmarked-more}
use Rattle.dfa.proofs.positions.blank_literal.Goals as goal

pub loop-c-preserved : goal.loop-c-preserved
loop-c-preserved c =
    let i = c.loop-c._c-index in
    let out = c.args.out.now.items in
    c.in_ok-push.ensures.items ∙ ap (λ y. y ++ false ∷ []) c.loop-c.invariant ∙ append_assoc out (unmarked i) (false ∷ []) ∙ ap (λ y. out ++ y) (unmarked-more i)
