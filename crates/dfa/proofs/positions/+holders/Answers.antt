use Rattle.dfa.proofs.Std.{◌≡◌, ◌+◌, ◌++◌, sym, ap, inl, inr, IfOk-weaker}
use Rattle.dfa.proofs.Common.{positions, holders}
use Rattle.dfa.proofs.Loops.{joined_at, sum_at}
use Rattle.dfa.proofs.positions.+holders.Goals as goal

pub returns-in_ok-holders-in-Sequence-clause-past : goal.returns-in_ok-holders-in-Sequence-clause-past
returns-in_ok-holders-in-Sequence-clause-past t c =
    let sum : positions c.in-Sequence.a.value + positions c.in-Sequence.b.value ≡ positions c.args.e.now = elim c.in-Sequence.is [
      | inl f ↦ sym (ap positions f)
      | inr f ↦ sym (ap positions f)
    ] in
    IfOk-weaker c.holders-in-Sequence-2.result _ _ (λ u past.
    sum_at c.deref-in-Sequence.result.now c.deref-in-Sequence-2.result.now c.in-Sequence.a.value c.in-Sequence.b.value c.args.at.now c.holders-in-Sequence.new.at
    c.holders-in-Sequence-2.new.at (positions c.args.e.now) c.deref-in-Sequence.ensures c.deref-in-Sequence-2.ensures c.in_ok-holders-in-Sequence.ensures.past past sum)
    c.holders-in-Sequence-2.ensures.past

pub returns-in_ok-holders-in-Sequence-clause-holders : goal.returns-in_ok-holders-in-Sequence-clause-holders
returns-in_ok-holders-in-Sequence-clause-holders t c =
    let held = holders c.args.c in
    let at = c.args.at.now in
    let x = c.in-Sequence.a.value in
    let y = c.in-Sequence.b.value in
    let whole : holders c.args.c at x ++ holders c.args.c (at + positions x) y ≡ holders c.args.c at c.args.e.now = elim c.in-Sequence.is [
      | inl f ↦ sym (ap (held at) f)
      | inr f ↦ sym (ap (held at) f)
    ] in
    IfOk-weaker c.holders-in-Sequence-2.result _ _ (λ u made.
    joined_at (held at) held c.deref-in-Sequence.result.now c.deref-in-Sequence-2.result.now x y at c.holders-in-Sequence.new.at c.args.out.now.items
    c.holders-in-Sequence.new.out.items c.holders-in-Sequence-2.new.out.items (held at c.args.e.now) c.deref-in-Sequence.ensures c.deref-in-Sequence-2.ensures
    c.in_ok-holders-in-Sequence.ensures.past c.in_ok-holders-in-Sequence.ensures.holders made whole) c.holders-in-Sequence-2.ensures.holders
