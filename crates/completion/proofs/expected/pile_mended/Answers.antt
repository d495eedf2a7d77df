use Rattle.completion.proofs.Std.{◌∙◌, [], subst, sym}
use Rattle.completion.proofs.Common.{AreStatesAfter}
use Rattle.completion.proofs.Piles.{found_after, tables_of_found}
use Rattle.completion.specs.Mended.{mended_before}
use Rattle.completion.proofs.expected.pile_mended.Goals as goal

pub returns-clause-tables : goal.returns-clause-tables
returns-clause-tables c =
    tables_of_found c.args.tables.now c.in_ok-first.first.tables c.after.result c.in_ok-first.ensures.tables c.after.ensures.tables

pub returns-clause-after : goal.returns-clause-after
returns-clause-after c =
    let first = c.in_ok-first.first in
    let tables = c.in_ok-first.ensures.tables in
    found_after c.args.tables.now first.tables (mended_before c.args.repairs.now c.args.kinds.items) c.deref.result.now c.after.result tables
    (c.deref.ensures.value ∙ c.in_ok-mended.ensures)
    (c.after.ensures.after [] (subst (λ u. AreStatesAfter u [] first.states) (sym tables) c.in_ok-first.ensures.after))
