use Rattle.item_sets.proofs.Std.{◌<◌, length, arith, sym, ◌∙◌, eqb-true, eqb-false}
use Rattle.item_sets.proofs.Common.{Rule, follows_nothing, follows_first}
use Rattle.item_sets.proofs.closure.only_lookahead.Goals as goal

pub returns-then-is_empty : goal.returns-then-is_empty
returns-then-is_empty c = λ g b. follows_nothing g c.args.symbols.now c.args.lookahead b (eqb-true (length c.args.symbols.now) 0 (sym c.is_empty.ensures ∙ c.if-is_empty.true))

pub returns-in-Rule : goal.returns-in-Rule
returns-in-Rule c =
    let some : 0 < length c.args.symbols.now = omega (arith, eqb-false (length c.args.symbols.now) 0 (sym c.is_empty.ensures ∙ c.if-is_empty.false)) in
    λ g b. follows_first g c.in-Rule.a (Rule 0) c.args.symbols.now c.args.lookahead b some c.in-Rule.is
