use Rattle.states.proofs.Std.{◌++◌, ◌≤◌, ap, arith, length, subst, sym, take, take_all}
use Rattle.states.proofs.Common.{AreStatesAfter, IsAccepted}
use Rattle.states.proofs.Machines.{begins, not_with_all}
use Rattle.states.proofs.Matches.{of_false}
use Rattle.states.proofs.pile.Pile.read_all.Goals as goal

pub returns-then-not-branch-clause-go_on : goal.returns-then-not-branch-clause-go_on
returns-then-not-branch-clause-go_on c x h =
    let kinds = c.args.kinds.now in
    let i = c.loop-kind.kind-index in
    let same = c.loop-kind.invariant.tables in
    let before = x ++ take i kinds in
    let after = subst (λ u. AreStatesAfter u before c.loop-kind.self.states) (sym same) (c.loop-kind.invariant.after x h) in
    not_with_all c.args.self.now.tables.grammar c.loop-kind.self.tables.grammar x kinds i _ (ap (λ u. u.grammar) same) c.loop-kind-test.true
    (of_false _ _ c.in_ok-read.field-0 c.if-not-branch.true (c.in_ok-read.ensures.goes_on before after))

pub returns-clause-go_on : goal.returns-clause-go_on
returns-clause-go_on c x h =
    let t = c.args.self.now.tables in
    let kinds = c.args.kinds.now in
    let states = c.loop-kind.self.states in
    let i = c.loop-kind.kind-index in
    let all : length kinds ≤ i = omega (arith, c.loop-kind-test.false) in
    let after = subst (λ l. AreStatesAfter t (x ++ l) states) (take_all i kinds all) (c.loop-kind.invariant.after x h) in
    begins t (x ++ kinds) states (subst (λ v. IsAccepted v.tables.grammar) c.self.view_is c.self.invariant.0) after
