use Rattle.parser.proofs.Std.{◌≡◌, ◌≤◌, IfOk, ap, ◌∙◌, subst, sym}
use Rattle.parser.proofs.Common.{most, place_of, plain_of, IsInput}
use Rattle.parser.proofs.Edits.{old_input, stack_countable}
use Rattle.parser.proofs.Running.{no_input}
use Rattle.parser.proofs.parse.Parse.remaining_input.Goals as goal

pub returns-then-not-branch-clause-input : goal.returns-then-not-branch-clause-input
returns-then-not-branch-clause-input c t old new h s =
    subst (λ l. IsInput t.grammar c.args.store.now l new 0) (sym c.new.ensures) (no_input t.grammar c.args.store.now new)

pub returns-clause-input : goal.returns-clause-input
returns-clause-input c t old new h s =
    let cells = c.args.store.now in
    let stack : c.args.self.now.stack ≡ c.deref-2.result.now = sym (c.deref-2.ensures.value ∙ ap (λ p. p.stack) c.self.view_is) in
    let before = subst (λ l. IsInput t.grammar cells l old 0) stack (old_input t old cells c.args.self.now h) in
    subst (λ k. IfOk c.prepare.result (λ input. IsInput t.grammar cells input k 0)) (sym s.new_is) (c.prepare.ensures.input t.grammar old before s.inside)

pub prepare-requires-clause-countable : goal.prepare-requires-clause-countable
prepare-requires-clause-countable c =
    let cells = c.args.store.now in
    let stack : c.args.self.now.stack ≡ c.deref-2.result.now = sym (c.deref-2.ensures.value ∙ ap (λ p. p.stack) c.self.view_is) in
    subst (λ l. place_of (plain_of cells l) ≤ most) stack (stack_countable c.requires.0 c.requires.1 cells c.args.self.now c.requires.3)
