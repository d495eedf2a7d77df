use Rattle.grammar.proofs.Std.{sym, subst, refl, take, [], arith, take_all}
use Rattle.grammar.proofs.Common.{AreNotes, none}
use Rattle.grammar.proofs.NotesOfUses.{one_more}
use Rattle.grammar.proofs.notes.notes.Goals as goal

pub loop-symbol-init : goal.loop-symbol-init
loop-symbol-init c = λ f skips same all. subst (λ ns. AreNotes f [] ns) (sym c.new-notes.ensures.items) none

pub loop-symbol-preserved : goal.loop-symbol-preserved
loop-symbol-preserved c = λ f skips same all.
    one_more f c.args.defined.now c.add.new.notes.items c.loop-symbol.symbol-index _ _ c.loop-symbol-test.true refl
    (c.in_ok-add.ensures f (take c.loop-symbol.symbol-index c.args.defined.now) skips same all (c.loop-symbol.invariant f skips same all))

pub returns : goal.returns
returns c = λ f skips same all.
    subst (λ ss. AreNotes f ss c.loop-symbol.notes.items) (take_all c.loop-symbol.symbol-index c.args.defined.now (omega (arith, c.loop-symbol-test.false))) (c.loop-symbol.invariant f skips same all)
