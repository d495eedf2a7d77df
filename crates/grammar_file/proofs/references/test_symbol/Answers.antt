use Rattle.grammar_file.proofs.Std.{◌∙◌, ap, sym, refl, true, false, Some}
use Rattle.grammar_file.proofs.Common.{SkipInProduction, Undefined}
use Rattle.grammar_file.proofs.NameMeanings.{fault_is}
use Rattle.grammar_file.proofs.references.test_symbol.Goals as goal

pub returns-then-is_some : goal.returns-then-is_some
returns-then-is_some c ss are = fault_is c.args.names.now ss c.args.name.now c.of-meaning.result are c.of-meaning.ensures true _ _ (sym c.is_some.ensures ∙ c.if-is_some.true) refl refl

pub returns-in_ok-name : goal.returns-in_ok-name
returns-in_ok-name c ss are =
    fault_is c.args.names.now ss c.args.name.now c.of-meaning.result are c.of-meaning.ensures false true _ (sym c.is_some.ensures ∙ c.if-is_some.false) c.if-meaning.true refl
    ∙ ap (λ w. Some (SkipInProduction w)) (sym c.in_ok-name.ensures.ok)

pub returns-then-is_some-2 : goal.returns-then-is_some-2
returns-then-is_some-2 c ss are =
    fault_is c.args.names.now ss c.args.name.now c.of-meaning.result are c.of-meaning.ensures false false true (sym c.is_some.ensures ∙ c.if-is_some.false) c.if-meaning.false
    (sym c.is_some-else-meaning.ensures ∙ c.if-is_some-2.true)

pub returns-in_ok-name-2 : goal.returns-in_ok-name-2
returns-in_ok-name-2 c ss are =
    fault_is c.args.names.now ss c.args.name.now c.of-meaning.result are c.of-meaning.ensures false false false (sym c.is_some.ensures ∙ c.if-is_some.false) c.if-meaning.false
    (sym c.is_some-else-meaning.ensures ∙ c.if-is_some-2.false)
    ∙ ap (λ w. Some (Undefined w)) (sym c.in_ok-name-2.ensures.ok)
