use Rattle.tables.proofs.Common.{seen}
use Rattle.tables.proofs.RowsOfPrefix.{start_state}
use Rattle.tables.proofs.tables.Tables.start.Goals as goal

pub returns-clause-start : goal.returns-clause-start
returns-clause-start c =
    let inside = c.self.inside in
    let t = seen inside.productions.grammar inside.gotos.items inside.moves.items in
    rw (← c.self.view_is) (start_state inside.productions.nonterminals t c.self.invariant)
