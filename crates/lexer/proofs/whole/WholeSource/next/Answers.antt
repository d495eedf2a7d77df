use Rattle.lexer.proofs.Std.{◌≡◌, ◌+◌, suc, drop, length, length-drop, ap, sym, ◌∙◌, arith, drop-cons, tail-eq_of_cons-eq}
use Rattle.lexer.proofs.whole.WholeSource.next.Goals as goal

pub unreachable-requires : goal.unreachable-requires
unreachable-requires c =
    let text = c.args.self.now.0.now in
    absurd (omega (arith, ap length c.requires.before, ap length c.in_default.ensures.steps.0, length-drop c.args._i text, c.requires.window))

pub returns-clause-moved : goal.returns-clause-moved
returns-clause-moved c =
    let text = c.args.self.now.0.now in
    let next : suc c.args._i ≡ c.args._i + 1 = omega arith in
    tail-eq_of_cons-eq (sym c.in-Some.ensures.steps ∙ c.requires.before ∙ drop-cons text c.args._i 0 c.requires.window) ∙ ap (λ n. drop n text) next
