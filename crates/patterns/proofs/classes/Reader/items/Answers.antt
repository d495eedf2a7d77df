use Rattle.patterns.proofs.Std.{List, sym, ◌∙◌, ap, subst, arith, list_all}
use Rattle.patterns.proofs.Common.{Interval, InClass, Items, fault_from, is_range, writing}
use Rattle.patterns.proofs.Literals.{IsClassSoFar, class_closed, one_more_item, all_and_one}
use Rattle.patterns.proofs.classes.Reader.items.Goals as goal

pub returns-in-Some-clause-spelled : goal.returns-in-Some-clause-spelled
returns-in-Some-clause-spelled c =
    class_closed c.loop-rest.intervals.items c.in-Some.field-0-0 (writing c.args.words.now) (writing c.loop-rest.left.now) (writing c.in-Some.rest.now) c.loop-rest.invariant.0 c.in-Some.ensures.0

pub loop-rest-preserved : goal.loop-rest-preserved
loop-rest-preserved c =
    let e = c.in_ok-push.ensures.items in
    let is = c.loop-rest.intervals.items in
    let i = c.in_ok-interval.interval in
    let rest = writing c.in_ok-interval.rest.now in
    let P : List Interval → Type 0 = λ x. IsClassSoFar x (writing c.args.words.now) rest in
    let read = c.in_ok-interval.ensures in (
      subst P (sym e) (one_more_item is i (writing c.args.words.now) (writing c.loop-rest.left.now) rest c.loop-rest.invariant.0 read.spelled),
      (λ d b negated. c.loop-rest.invariant.1 d b negated ∙ read.goes_on d b negated is ∙ ap (λ x. fault_from c.args.self.end (InClass d b negated x Items) rest) (sym e)),
      ap (list_all is_range) e ∙ all_and_one is_range is i c.loop-rest.invariant.2 read.ordered,
      omega (arith, read.shorter),
    )
