use Rattle.views.proofs.Std.{arith, ◌∙◌, take_all}
use Rattle.std.specs.Str.{chars}
use Rattle.std.specs.String.{string_bytes}
use Rattle.views.proofs.RowsOfTokens.{named_more}
use Rattle.views.proofs.rows.names_of_rules.Goals as goal

pub loop-rule-preserved : goal.loop-rule-preserved
loop-rule-preserved c =
    rw c.in_ok-push.ensures.items (named_more (λ name. chars (string_bytes name.value)) c.args.grammar.now.names c.loop-rule.names.items c.loop-rule.rule
    c.in_ok-name_of.field-0 c.loop-rule.invariant (omega (arith, c.loop-rule-test.true, c.rules-rule-end.ensures)) c.in_ok-name_of.ensures)

pub returns : goal.returns
returns c = c.loop-rule.invariant ∙ take_all c.loop-rule.rule c.args.grammar.now.names (omega (arith, c.loop-rule-test.false, c.rules-rule-end.ensures))
