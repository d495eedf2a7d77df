use Rattle.completion.proofs.Std.{◌++◌, ◌≡◌, ◌∙◌, ap, option_to_list, subst, take}
use Rattle.completion.proofs.Common.{AreExpected, IsViable, significant_kinds}
use Rattle.completion.proofs.Goings.{mended, nothing_expected, stopped, unmended}
use Rattle.completion.proofs.Matches.{of_none, of_some, of_true}
use Rattle.completion.proofs.Piles.{expected_there}
use Rattle.completion.specs.Mended.{EndsInvalid, mended_before}
use Rattle.states.proofs.Matches.{if_some, of_false}
use Rattle.completion.proofs.expected.expected.Goals.{In_ok-kinds}
use Rattle.completion.proofs.expected.expected.Goals as goal

pub returns-in-Some : goal.returns-in-Some
returns-in-Some c =
    let t = c.args.tables.now in
    let kinds = significant_kinds (take c.args.count c.args.doc.now.tokens.items) ++ option_to_list c.args.last in
    let after = of_some _ _ c.in_ok-pile.field-0 c.in-Some.pile c.in-Some.is c.in_ok-pile.ensures.after in
    let tables = if_some _ c.in_ok-pile.field-0 c.in-Some.pile c.in-Some.is c.in_ok-pile.ensures.tables in
    unmended t.grammar c.args.repairs.now kinds c.expected.result after.0 (expected_there t c.in-Some.pile kinds c.expected.result tables after.1 (c.expected.ensures kinds))

-- the kinds before the place, as they are read
kinds_read : (c : In_ok-kinds) → c.in_ok-kinds.kinds.items ≡ significant_kinds (take c.args.count c.args.doc.now.tokens.items) ++ option_to_list c.args.last
kinds_read c = c.in_ok-kinds.ensures ∙ ap (λ l. significant_kinds (take c.args.count l.items) ++ option_to_list c.args.last) c.tokens.ensures.is

-- no sentence begins with them
none_begins : (c : In_ok-kinds) → ¬ IsViable c.args.tables.now.grammar (significant_kinds (take c.args.count c.args.doc.now.tokens.items) ++ option_to_list c.args.last)
none_begins c = of_none _ _ c.in_ok-pile.field-0 c.in_default.is c.in_ok-pile.ensures.after

pub returns-then-ends_invalid : goal.returns-then-ends_invalid
returns-then-ends_invalid c =
    let read = (goal.at.returns-then-ends_invalid c).In_ok-kinds in
    let ends = of_true (EndsInvalid c.deref.result.now) (¬ EndsInvalid c.deref.result.now) c.ends_invalid.result c.if-ends_invalid.true c.ends_invalid.ensures in
    stopped c.args.tables.now.grammar c.args.repairs.now _ c.nothing.result (none_begins read) (subst EndsInvalid (c.deref.ensures.value ∙ kinds_read read) ends) c.nothing.ensures

pub returns-in-Some-2 : goal.returns-in-Some-2
returns-in-Some-2 c =
    let t = c.args.tables.now in
    let repairs = c.args.repairs.now in
    let read = (goal.at.returns-in-Some-2 c).In_ok-kinds in
    let ends = of_false (EndsInvalid c.deref.result.now) (¬ EndsInvalid c.deref.result.now) c.ends_invalid.result c.if-ends_invalid.false c.ends_invalid.ensures in
    let x = mended_before repairs c.in_ok-kinds.kinds.items in
    let after = of_some _ _ c.in_ok-pile-2.field-0 c.in-Some-2.pile c.in-Some-2.is c.in_ok-pile-2.ensures.after in
    let tables = if_some _ c.in_ok-pile-2.field-0 c.in-Some-2.pile c.in-Some-2.is c.in_ok-pile-2.ensures.tables in
    let there = expected_there t c.in-Some-2.pile x c.expected-in-Some-2.result tables after.1 (c.expected-in-Some-2.ensures x) in
    mended t.grammar repairs _ c.expected-in-Some-2.result (none_begins read) (subst (λ l. ¬ EndsInvalid l) (c.deref.ensures.value ∙ kinds_read read) ends)
    (subst (λ l. AreExpected t.grammar (mended_before repairs l) c.expected-in-Some-2.result) (kinds_read read) there)

pub returns-in-None : goal.returns-in-None
returns-in-None c =
    let t = c.args.tables.now in
    let repairs = c.args.repairs.now in
    let read = (goal.at.returns-in-None c).In_ok-kinds in
    let ends = of_false (EndsInvalid c.deref.result.now) (¬ EndsInvalid c.deref.result.now) c.ends_invalid.result c.if-ends_invalid.false c.ends_invalid.ensures in
    let x = mended_before repairs c.in_ok-kinds.kinds.items in
    let not = of_none _ _ c.in_ok-pile-2.field-0 c.in-None.is c.in_ok-pile-2.ensures.after in
    mended t.grammar repairs _ c.nothing-in-None.result (none_begins read) (subst (λ l. ¬ EndsInvalid l) (c.deref.ensures.value ∙ kinds_read read) ends)
    (subst (λ l. AreExpected t.grammar (mended_before repairs l) c.nothing-in-None.result) (kinds_read read) (nothing_expected t.grammar x c.nothing-in-None.result not c.nothing-in-None.ensures))
