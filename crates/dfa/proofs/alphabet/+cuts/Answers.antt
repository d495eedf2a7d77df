use Rattle.dfa.proofs.Std.{◌≡◌, ◌+◌, ◌++◌, sym, ap, refl, inl, inr, IfOk-weaker}
use Rattle.dfa.proofs.Common.{cuts, positions}
use Rattle.dfa.proofs.Loops.{joined_at}
use Rattle.dfa.proofs.alphabet.+cuts.Goals as goal

pub returns-in_ok-cuts-in-Sequence-clause-cuts : goal.returns-in_ok-cuts-in-Sequence-clause-cuts
returns-in_ok-cuts-in-Sequence-clause-cuts t c =
    let a = c.deref-in-Sequence.result.now in
    let b = c.deref-in-Sequence-2.result.now in
    let x = c.in-Sequence.a.value in
    let y = c.in-Sequence.b.value in
    let whole : cuts x ++ cuts y ≡ cuts c.args.e.now = elim c.in-Sequence.is [ inl f ↦ sym (ap cuts f) | inr f ↦ sym (ap cuts f) ] in
    IfOk-weaker c.cuts-in-Sequence-2.result _ _ (λ u made.
    joined_at cuts (λ k e. cuts e) a b x y 0 (0 + positions a) c.args.out.now.items c.cuts-in-Sequence.new.out.items c.cuts-in-Sequence-2.new.out.items
    (cuts c.args.e.now) c.deref-in-Sequence.ensures c.deref-in-Sequence-2.ensures refl c.in_ok-cuts-in-Sequence.ensures.cuts made whole) c.cuts-in-Sequence-2.ensures.cuts

pub returns-in_ok-cuts-in-Sequence-clause-characters : goal.returns-in_ok-cuts-in-Sequence-clause-characters
returns-in_ok-cuts-in-Sequence-clause-characters t c =
    IfOk-weaker c.cuts-in-Sequence-2.result _ _ (λ u more old. more (c.in_ok-cuts-in-Sequence.ensures.characters old)) c.cuts-in-Sequence-2.ensures.characters
