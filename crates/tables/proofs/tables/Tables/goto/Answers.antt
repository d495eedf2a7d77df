use Rattle.tables.proofs.Std.{◌≡◌, [], None, slice_index_or, sym, ap, ◌∙◌, arith, get_or_default}
use Rattle.tables.proofs.RowsOfPrefix.{goes, far_goto}
use Rattle.tables.proofs.tables.Tables.goto.Goals as goal

pub returns-then-nonterminal-nonterminals : goal.returns-then-nonterminal-nonterminals
returns-then-nonterminal-nonterminals c =
    let n = c.args.nonterminal in
    let gotos = c.self.inside.gotos.items in
    rw (← c.self.view_is) (λ prefix h.
    let filled = c.self.invariant.filled in
    let below = h.below in
    let row : c.index.result.now ≡ slice_index_or gotos c.args.state [] = c.index.ensures ∙ get_or_default gotos c.args.state c.index.result.now [] (omega (arith, filled, below)) in
    goes _ _ c.self.invariant prefix c.args.state h n c.to.result (sym (c.to.ensures ∙ ap (λ r. slice_index_or r n None) row)))

pub returns-else-nonterminal-nonterminals : goal.returns-else-nonterminal-nonterminals
returns-else-nonterminal-nonterminals c =
    let n = c.args.nonterminal in
    rw (← c.self.view_is) (λ prefix h. goes _ _ c.self.invariant prefix c.args.state h n None
    (far_goto _ _ c.self.invariant prefix c.args.state h n (let e = c.nonterminals.ensures in let l = c.if-nonterminal-nonterminals.false in omega (arith, e, l))))
