use Rattle.lexer.proofs.Std.{arith, sym, subst, ◌≡◌, ◌+◌, ◌-◌}
use Rattle.lexer.proofs.Common.{IsPassed, horizon}
use Rattle.lexer.proofs.Boundaries.{not_after, rejoined_is}
use Rattle.lexer.proofs.tokens.rejoin_place.Goals as goal

pub returns-then-at-edit-clause-is : goal.returns-then-at-edit-clause-is
returns-then-at-edit-clause-is c = λ passed. not_after c.args.edit c.args.old.now.items c.args.at c.if-at-edit.true

pub returns-clause-passed : goal.returns-clause-passed
returns-clause-passed c = λ passed.
    let here : horizon c.args.edit c.args.at ≡ c.args.at - c.args.edit.inserted + c.args.edit.removed = omega (arith, c.if-at-edit.false) in
    subst (λ o. IsPassed o c.place_of.new.self) (sym here) (c.place_of.ensures.passed (subst (λ o. IsPassed o c.args.old.now) here passed))

pub returns-clause-is : goal.returns-clause-is
returns-clause-is c = λ passed.
    let here : horizon c.args.edit c.args.at ≡ c.args.at - c.args.edit.inserted + c.args.edit.removed = omega (arith, c.if-at-edit.false) in
    rejoined_is c.args.edit c.args.old.now.items c.args.at c.place_of.result c.if-at-edit.false (c.place_of.ensures.is (subst (λ o. IsPassed o c.args.old.now) here passed))
