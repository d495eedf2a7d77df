use Rattle.std.proofs.Common.{◌<◌, ◌≤◌, ◌∷◌, [], None, length, false, sym, ap, ◌∙◌, arith, is_some, if◌then◌else◌}
use Rattle.tables.proofs.Expecting.{shown_next, passed_over, rules_shown}
use Rattle.tables.proofs.expected.ExpectedIterator.next.Goals as goal

pub loop-self-init : goal.loop-self-init
loop-self-init c = c.self.view_is

pub loop-self-preserved : goal.loop-self-preserved
loop-self-preserved c =
    let s = c.loop-self.self-inside in
    let within : s.rule < length s.moves = omega (arith, c.len.ensures, c.loop-self-test.true) in
    sym (passed_over s.moves s.rule s.at_end within (ap is_some (sym c.at.ensures) ∙ sym c.is_some.ensures ∙ c.if-is_some.false)) ∙ c.loop-self.invariant

pub loop-self-smaller : goal.loop-self-smaller
loop-self-smaller c = omega (arith, c.len.ensures, c.loop-self-test.true)

pub returns-then-is_some-clause-steps : goal.returns-then-is_some-clause-steps
returns-then-is_some-clause-steps c =
    let s = c.loop-self.self-inside in
    let within : s.rule < length s.moves = omega (arith, c.len.ensures, c.loop-self-test.true) in
    sym c.loop-self.invariant ∙ shown_next s.moves s.rule s.at_end within (ap is_some (sym c.at.ensures) ∙ sym c.is_some.ensures ∙ c.if-is_some.true)

pub returns-then-is_some-clause-goes : goal.returns-then-is_some-clause-goes
returns-then-is_some-clause-goes c =
    let fewer = ap length (returns-then-is_some-clause-steps c) in
    record { on = λ _. (tt, tt, omega (arith, fewer)); keeps = tt; rests = λ _. tt }

pub returns-then-self-clause-steps : goal.returns-then-self-clause-steps
returns-then-self-clause-steps c =
    let s = c.loop-self.self-inside in
    let past : length s.moves ≤ s.rule = omega (arith, c.len.ensures, c.loop-self-test.false) in
    let none = rules_shown s.moves s.rule false past in
    sym c.loop-self.invariant ∙ rules_shown s.moves s.rule s.at_end past ∙ ap (λ b. if b then None ∷ [] else []) c.if-self.true ∙ ap (λ rest. None ∷ rest) (sym none)

pub returns-then-self-clause-goes : goal.returns-then-self-clause-goes
returns-then-self-clause-goes c =
    let fewer = ap length (returns-then-self-clause-steps c) in
    record { on = λ _. (tt, tt, omega (arith, fewer)); keeps = tt; rests = λ _. tt }

pub returns-clause-steps : goal.returns-clause-steps
returns-clause-steps c =
    let s = c.loop-self.self-inside in
    let past : length s.moves ≤ s.rule = omega (arith, c.len.ensures, c.loop-self-test.false) in
    let none = rules_shown s.moves s.rule s.at_end past ∙ ap (λ b. if b then None ∷ [] else []) c.if-self.false in
    (sym c.loop-self.invariant ∙ none, none)
