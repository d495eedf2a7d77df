use Rattle.lexer.proofs.Std.{arith, inr, ap, subst, ◌∙◌, ◌∷◌, length}
use Rattle.lexer.proofs.Common.{IsWalk}
use Rattle.lexer.proofs.Totals.{few}
use Rattle.lexer.proofs.Walks.{walk_on, passed_on, at_end}
use Rattle.lexer.proofs.walk.Walk.go_to.Goals as goal

pub returns-in_default-clause-reached : goal.returns-in_default-clause-reached
returns-in_default-clause-reached c =
    let w = c.loop-self.self-inside in
    let none = subst (λ ahead. IsWalk w.items.now ahead w.place w.start) c.in_default.ensures.steps.0 c.loop-self.invariant.walk in
    inr (at_end w.items.now w.place w.start none ∙ ap length c.loop-self.invariant.items)

pub overflow_add-self-in-loop-self : goal.overflow_add-self-in-loop-self
overflow_add-self-in-loop-self c =
    let w = c.loop-self.self-inside in
    omega (arith, c.loop-self.invariant.walk.within, few w.items.now c.loop-self.invariant.walk.fits)

pub loop-self-preserved : goal.loop-self-preserved
loop-self-preserved c =
    let w = c.loop-self.self-inside in
    let x = c.in-Some.token.now in
    let old = c.loop-self.invariant in
    let walk : IsWalk w.items.now (x ∷ c.next.new.self) w.place w.start = subst (λ ahead. IsWalk w.items.now ahead w.place w.start) c.in-Some.ensures.steps old.walk in
    rw c.length.ensures (record {
      walk = walk_on w.items.now c.next.new.self x w.place w.start walk;
      items = old.items;
      passed = λ h. passed_on w.items.now c.next.new.self x w.place w.start walk c.args.offset c.loop-self-test.true (old.passed h);
    })
