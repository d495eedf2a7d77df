use Rattle.tables.proofs.Std.{subst}
use Rattle.tables.proofs.Common.{AreMovesDecided, seen}
use Rattle.tables.proofs.StateDecides.{moves_decided}
use Rattle.tables.proofs.tables.Tables.moves_are_decided.Goals as goal

pub returns : goal.returns
returns c =
    let inside = c.self.inside in
    subst (λ t. AreMovesDecided t.grammar) c.self.view_is (moves_decided inside.productions.nonterminals (seen inside.productions.grammar inside.gotos.items inside.moves.items) c.self.invariant)
