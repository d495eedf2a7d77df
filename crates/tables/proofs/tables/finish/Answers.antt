use Rattle.tables.proofs.Std.{length, sym, ap, subst, ◌∙◌}
use Rattle.tables.proofs.Common.{Made, AreMade}
use Rattle.tables.proofs.Finishing.{tables_all}
use Rattle.tables.proofs.tables.finish.Goals as goal

pub invariant_of-result : goal.invariant_of-result
invariant_of-result c =
    let g = c.args.grammar in
    let t = c.args._states.now in
    let m : Made = record { gotos = c.made.inside.gotos.items; moves = c.made.inside.moves.items; clash = c.made.inside.clash } in
    let made = subst (AreMade g t.kernels) (sym c.made.view_is) c.requires.made in
    let all = ap (λ x. length x.gotos) c.made.view_is ∙ c.requires.all in
    let free = ap (λ x. x.clash) c.made.view_is ∙ c.requires.free in
    rw (c.into_productions.ensures) (tables_all g t c.requires.states m made all free)

pub returns-clause-free : goal.returns-clause-free
returns-clause-free c = (tables_all c.args.grammar c.args._states.now c.requires.states c.args.made c.requires.made c.requires.all c.requires.free).accepted.free
