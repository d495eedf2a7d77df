use Rattle.lexer.proofs.Std.{arith, sym, ap, subst, ◌≡◌, ◌⊎◌, ◌≤◌, ◌∙◌, length, take}
use Rattle.lexer.proofs.Common.{characters, Fits, IsPassed}
use Rattle.lexer.proofs.Walks.{starts_nowhere}
use Rattle.lexer.proofs.walk.Walk.place_of.Goals as goal
use Rattle.lexer.proofs.walk.Walk.place_of.Goals.{then-self-offset, else-self-offset}

pub returns-clause-is : goal.returns-clause-is
returns-clause-is c = λ passed.
    let xs = c.args.self.now.items in
    let place = c.self.inside.place in
    let items : c.self.inside.items.now ≡ xs = ap (λ s. s.items) c.self.view_is ∙ c.go_to.ensures.items in
    let same : place ≡ c.go_to.new.self.place = ap (λ s. s.place) c.self.view_is in
    let start : c.self.inside.start ≡ characters (take place xs) = c.self.invariant.start_is ∙ ap (λ ys. characters (take place ys)) items in
    let here = subst (IsPassed c.args.offset) (sym c.self.view_is) (c.go_to.ensures.passed passed) in
    elim c.if-self-offset.branch [
      | then-self-offset w ↦ rw w.result-is (omega (arith, c.self.invariant.within, ap length items), sym start ∙ w.if-self-offset.true)
      | else-self-offset w ↦ rw w.result-is (starts_nowhere xs place c.args.offset (subst Fits items c.self.invariant.fits)
          (subst (λ p. (c.args.offset ≤ characters (take p xs)) ⊎ (p ≡ length xs)) (sym same) c.go_to.ensures.reached)
          (λ e. w.if-self-offset.false (start ∙ e))
          (subst (λ ys. IsPassed c.args.offset (record { items = ys; place = place })) items here))
    ]
