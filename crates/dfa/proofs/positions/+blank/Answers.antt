use Rattle.dfa.proofs.Std.{◌≡◌, ◌+◌, ◌++◌, sym, ap, ◌∙◌, refl, inl, inr, IfOk-weaker}
use Rattle.dfa.proofs.Common.{positions, unmarked}
use Rattle.dfa.proofs.JoinedLists.{unmarked-add}
use Rattle.dfa.proofs.Loops.{joined_at}
use Rattle.dfa.proofs.positions.+blank.Goals as goal

pub returns-in_ok-blank-in-Sequence : goal.returns-in_ok-blank-in-Sequence
returns-in_ok-blank-in-Sequence t c =
    let a = c.deref-in-Sequence.result.now in
    let b = c.deref-in-Sequence-2.result.now in
    let x = c.in-Sequence.a.value in
    let y = c.in-Sequence.b.value in
    let all : unmarked (positions x) ++ unmarked (positions y) ≡ unmarked (positions c.args.e.now) = elim c.in-Sequence.is [
      | inl f ↦ unmarked-add (positions x) (positions y) ∙ sym (ap (λ e. unmarked (positions e)) f)
      | inr f ↦ unmarked-add (positions x) (positions y) ∙ sym (ap (λ e. unmarked (positions e)) f)
    ] in
    IfOk-weaker c.blank-in-Sequence-2.result _ _ (λ u made.
    joined_at (λ e. unmarked (positions e)) (λ k e. unmarked (positions e)) a b x y 0 (0 + positions a) c.args.out.now.items c.blank-in-Sequence.new.out.items
    c.blank-in-Sequence-2.new.out.items (unmarked (positions c.args.e.now)) c.deref-in-Sequence.ensures c.deref-in-Sequence-2.ensures refl c.in_ok-blank-in-Sequence.ensures made all)
    c.blank-in-Sequence-2.ensures
