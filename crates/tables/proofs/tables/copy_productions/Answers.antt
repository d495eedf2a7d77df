use Rattle.tables.proofs.Std.{◌≡◌, length, sym, ◌∙◌, subst, arith, rules, common_steps}
use Rattle.tables.proofs.Common.{IsSound}
use Rattle.tables.proofs.ProductionsOfFile.{all_of_them, shape_sound}
use Rattle.tables.proofs.tables.copy_productions.Goals as goal

pub returns-clause-sound : goal.returns-clause-sound
returns-clause-sound c =
    let f = c.args.grammar.now in
    let h = c.start.ensures.sound in
    let end : c.loop-p.p ≡ length f.grammar.productions = (let e = c.productions-p-end.ensures in let l = c.loop-p-test.false in let m = c.loop-p.auto.p-end in omega (arith, e, l, m)) in
    subst IsSound (sym (c.loop-p.invariant ∙ all_of_them f h c.loop-p.p end)) (shape_sound f h)

pub loop-p-init : goal.loop-p-init
loop-p-init c = search rules

pub loop-p-preserved : goal.loop-p-preserved
loop-p-preserved c = grind (arith, common_steps)
