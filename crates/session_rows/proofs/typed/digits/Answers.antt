use Rattle.std.specs.Prelude.{◌≡◌, List, [], ◌∷◌, ◌++◌, codes}
use Rattle.std.proofs.Common.{ap, sym, subst, ◌∙◌}
use Rattle.std.proofs.lemmas.Result.{IfOk-weaker}
use Rattle.definitions.specs.declared.expression.Expression.{Expression}
use Rattle.definitions.specs.declared.expression.Interval.{Interval}
use Rattle.definitions.specs.Patterns.{Matches}
use Rattle.definitions.specs.Spelling.{Spells}
use Rattle.session_rows.proofs.Digits.{spelled, matched}
use Rattle.session_rows.proofs.typed.digits.Goals as goal

one_interval : (c : goal.After-at_least_once) → c.push.new.self.items ≡ record { first = 48; last = 57 } ∷ []
one_interval c = c.in_ok-push.ensures.items ∙ ap (λ (l : List Interval). l ++ record { first = 48; last = 57 } ∷ []) c.new-intervals.ensures.items

pub returns-clause-spelled : goal.returns-clause-spelled
returns-clause-spelled c =
    IfOk-weaker c.at_least_once.result _ _ (λ e is. subst (λ (x : Expression). Spells x (codes "[0-9]+")) (sym is.1) (spelled is.0 c.push.new.self (one_interval c))) c.at_least_once.ensures

pub returns-clause-two : goal.returns-clause-two
returns-clause-two c =
    IfOk-weaker c.at_least_once.result _ _ (λ e is. subst (λ (x : Expression). Matches x (codes "2")) (sym is.1) (matched is.0 c.push.new.self (one_interval c))) c.at_least_once.ensures
