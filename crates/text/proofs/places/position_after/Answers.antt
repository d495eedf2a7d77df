use Rattle.text.proofs.Std.{sym, ◌∙◌, ◌≡◌, ◌+◌}
use Rattle.text.proofs.Common.{Position, unit}
use Rattle.text.proofs.NextPosition.{after_break, after_return, after_other}
use Rattle.text.proofs.places.position_after.Goals as goal

pub returns-then-is_break_end : goal.returns-then-is_break_end
returns-then-is_break_end c t i rest e next is = after_break c.args.unit t rest i c.args.c c.args.position e is (sym (c.is_break_end.ensures rest next) ∙ c.if-is_break_end.true)

pub returns-then-c-eq13 : goal.returns-then-c-eq13
returns-then-c-eq13 c t i rest e next is = after_return c.args.unit t rest i c.args.c c.args.position e is (sym (c.is_break_end.ensures rest next) ∙ c.if-is_break_end.false) c.if-c-eq13.true

pub returns : goal.returns
returns c t i rest e next is =
    let join_three : ◌≡◌ {A = Position} (record { line = c.args.position.line; character = c.args.position.character + c.units_of.result })
    (record { line = c.args.position.line; character = c.args.position.character + unit c.args.unit c.args.c }) =
    λ k. record { line = c.args.position.line; character = c.args.position.character + c.units_of.ensures.is k } in
    join_three ∙ after_other c.args.unit t rest i c.args.c c.args.position e is (sym (c.is_break_end.ensures rest next) ∙ c.if-is_break_end.false) c.if-c-eq13.false
