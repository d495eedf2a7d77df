use Rattle.completion.proofs.Std.{◌++◌, ◌≡◌, ◌∙◌, [], ap, option_to_list, subst, sym, take}
use Rattle.completion.proofs.Common.{AreStatesAfter, significant_kinds}
use Rattle.completion.proofs.Matches.{listed}
use Rattle.completion.proofs.Piles.{found_after, tables_of_found}
use Rattle.states.proofs.Matches.{if_some}
use Rattle.completion.proofs.expected.pile_at.Goals as goal

pub returns-in-Some-clause-tables : goal.returns-in-Some-clause-tables
returns-in-Some-clause-tables c =
    tables_of_found c.args.tables.now c.in-Some.pile.tables c.after.result (if_some _ c.in_ok-pile.field-0 c.in-Some.pile c.in-Some.is c.in_ok-pile.ensures.tables)
    c.after.ensures.tables

pub returns-in-Some-clause-after : goal.returns-in-Some-clause-after
returns-in-Some-clause-after c =
    let t = c.args.tables.now in
    let kinds = significant_kinds (take c.args.count c.args.doc.now.tokens.items) in
    let tables = if_some _ c.in_ok-pile.field-0 c.in-Some.pile c.in-Some.is c.in_ok-pile.ensures.tables in
    let there = if_some _ c.in_ok-pile.field-0 c.in-Some.pile c.in-Some.is c.in_ok-pile.ensures.after in
    found_after t c.in-Some.pile.tables (kinds ++ option_to_list c.args.last) (kinds ++ c.as_slice.result.now) c.after.result tables
    (ap (λ l. kinds ++ l) (listed c.args.last c.as_slice.result.now c.as_slice.ensures))
    (c.after.ensures.after kinds (subst (λ u. AreStatesAfter u kinds c.in-Some.pile.states) (sym tables) there))

pub returns-clause-tables : goal.returns-clause-tables
returns-clause-tables c =
    tables_of_found c.args.tables.now c.in_ok-first.first.tables c.after-2.result c.in_ok-first.ensures.tables c.after-2.ensures.tables

pub returns-clause-after : goal.returns-clause-after
returns-clause-after c =
    let t = c.args.tables.now in
    let first = c.in_ok-first.first in
    let tables = c.in_ok-first.ensures.tables in
    let kinds = significant_kinds (take c.args.count c.args.doc.now.tokens.items) ++ option_to_list c.args.last in
    let given : c.deref.result.now ≡ kinds =
    c.deref.ensures.value ∙ c.in_ok-kinds.ensures ∙ ap (λ l. significant_kinds (take c.args.count l.items) ++ option_to_list c.args.last) c.tokens.ensures.is in
    found_after t first.tables kinds c.deref.result.now c.after-2.result tables given
    (c.after-2.ensures.after [] (subst (λ u. AreStatesAfter u [] first.states) (sym tables) c.in_ok-first.ensures.after))
