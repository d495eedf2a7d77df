use Rattle.patterns.proofs.Std.{sym, ◌∙◌, ap}
use Rattle.patterns.proofs.Common.{is_nothing, writing}
use Rattle.patterns.proofs.Literals.{caret_body, caret_step, no_member, some_member}
use Rattle.patterns.proofs.Repeats.{hands_on}
use Rattle.patterns.proofs.classes.Reader.class.Goals as goal

pub returns-in_err-intervals-clause-fault : goal.returns-in_err-intervals-clause-fault
returns-in_err-intervals-clause-fault c =
    let s = c.strip_caret-negated in
    hands_on c.from_residual.result _ c.from_residual.ensures (λ f g d.
    caret_step c.args.self.end d c.args.bracket s.result.0 (writing c.args.words.now) (writing s.result.1.now) s.ensures.caret
    ∙ g d c.args.bracket s.result.0) c.in_err-intervals.ensures.fault

pub returns-then-is_nothing-clause-fault : goal.returns-then-is_nothing-clause-fault
returns-then-is_nothing-clause-fault c =
    let s = c.strip_caret-negated in
    let none = sym (c.if-is_nothing.ensures ∙ ap (is_nothing s.result.0) c.deref.ensures.value) in
    rw c.fault.ensures (λ d.
    caret_step c.args.self.end d c.args.bracket s.result.0 (writing c.args.words.now) (writing s.result.1.now) s.ensures.caret
    ∙ c.in_ok-intervals.ensures.goes_on d c.args.bracket s.result.0
    ∙ no_member c.args.self.end d c.args.bracket s.result.0 c.in_ok-intervals.intervals.items (writing c.in_ok-intervals.rest.now) none)

pub returns-clause-spelled : goal.returns-clause-spelled
returns-clause-spelled c =
    let s = c.strip_caret-negated in
    caret_body s.result.0 c.in_ok-intervals.intervals.items (writing c.args.words.now) (writing s.result.1.now) (writing c.in_ok-intervals.rest.now) s.ensures.caret c.in_ok-intervals.ensures.spelled

pub returns-clause-goes_on : goal.returns-clause-goes_on
returns-clause-goes_on c =
    let s = c.strip_caret-negated in
    let some = sym (c.if-is_nothing.ensures ∙ ap (is_nothing s.result.0) c.deref.ensures.value) in
    λ d. caret_step c.args.self.end d c.args.bracket s.result.0 (writing c.args.words.now) (writing s.result.1.now) s.ensures.caret
    ∙ c.in_ok-intervals.ensures.goes_on d c.args.bracket s.result.0
    ∙ some_member c.args.self.end d c.args.bracket s.result.0 c.in_ok-intervals.intervals.items (writing c.in_ok-intervals.rest.now) some
