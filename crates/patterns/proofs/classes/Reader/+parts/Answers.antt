use Rattle.patterns.proofs.Std.{not, [], ◌∷◌, refl, sym, ◌∙◌, ap, lt_trans}
use Rattle.patterns.proofs.Common.{Outside, Nothing, ARepetition, fault_from, one_seq, one_rep, sequence, choice, Plain, writing, is_sound}
use Rattle.patterns.proofs.Blanks.{among_blanks, blanks_skipped}
use Rattle.patterns.proofs.Repeats.{of_level, repeated, no_stop, joined, enclosed, literal_part, class_part, group_opens, unclosed, as_group, hands_on}
use Rattle.patterns.proofs.classes.Reader.+parts.Goals as goal

pub alternatives-loop-after-init : goal.alternatives-loop-after-init
alternatives-loop-after-init t c = (of_level (one_seq c.args.self.depth) c.in_ok-choice.ensures.read, c.in_ok-choice.ensures.stops)

pub alternatives-loop-after-preserved : goal.alternatives-loop-after-preserved
alternatives-loop-after-preserved t c =
    let d = c.args.self.depth in
    let h = c.in_ok-next.ensures in
    let e = c.in_ok-choice-2.ensures in
    let bar = c.in-Some.ensures in (
      joined (Plain c.in-Some.field-0-0 124 ∷ []) c.loop-after.invariant.0 h.read bar.0 (lt_trans h.read.shorter bar.1) (ap (fault_from c.args.self.end (Outside d ARepetition)) bar.0)
          (ap is_sound e.2) (λ us vs s t. rw e.2 (choice d us vs _ _ refl refl s (one_seq d vs t))),
      h.stops,
    )

pub alternatives-returns-in_err-next-clause-fault : goal.alternatives-returns-in_err-next-clause-fault
alternatives-returns-in_err-next-clause-fault t c =
    let e = c.from_residual-in_err-next in
    let first = c.loop-after.invariant.0.goes_on ∙ ap (fault_from c.args.self.end (Outside c.args.self.depth ARepetition)) c.in-Some.ensures.0 in
    hands_on e.result _ e.ensures (λ f g. first ∙ g) c.in_err-next.ensures.fault

pub sequence-loop-self-init : goal.sequence-loop-self-init
sequence-loop-self-init t c = (of_level (one_rep c.args.self.depth) c.in_ok-sequence.ensures.read, c.in_ok-sequence.ensures.no_blank)

pub sequence-loop-self-preserved : goal.sequence-loop-self-preserved
sequence-loop-self-preserved t c =
    let d = c.args.self.depth in
    let h = c.in_ok-next.ensures in
    let e = c.in_ok-sequence-2.ensures in
    let i = c.loop-self.invariant in (
      joined [] i.0 h.read refl h.read.shorter (no_stop c.args.self.end d (writing c.loop-self.rest.now) (sym c.loop-self-test.ensures) i.1)
          (ap is_sound e.2) (λ us vs s t. rw e.2 (sequence d us vs _ refl s (one_rep d vs t))),
      h.no_blank,
    )

pub sequence-returns-in_err-next-clause-fault : goal.sequence-returns-in_err-next-clause-fault
sequence-returns-in_err-next-clause-fault t c =
    let e = c.from_residual-in_err-next in
    let i = c.loop-self.invariant in
    let first = i.0.goes_on ∙ no_stop c.args.self.end c.args.self.depth (writing c.loop-self.rest.now) (sym c.loop-self-test.ensures) i.1 in
    hands_on e.result _ e.ensures (λ f g. first ∙ g) c.in_err-next.ensures.fault

pub repetition-returns-clause-read : goal.repetition-returns-clause-read
repetition-returns-clause-read t c = repeated c.in_ok-part.ensures.read c.in_ok-expression.ensures.repeated

pub atom-returns-clause-read : goal.atom-returns-clause-read
atom-returns-clause-read t c = among_blanks c.skip_blanks.ensures c.in_ok-part.ensures.read c.skip_blanks-2.ensures

pub atom-returns-in_err-part-clause-fault : goal.atom-returns-in_err-part-clause-fault
atom-returns-in_err-part-clause-fault t c =
    let first = blanks_skipped c.args.self.end c.args.self.depth Nothing (writing c.args.words.now) (writing c.skip_blanks.result.now) c.skip_blanks.ensures.0 in
    hands_on c.from_residual.result _ c.from_residual.ensures (λ f g. first ∙ g) c.in_err-part.ensures.fault

pub bare_atom-returns-in-Some-clause-read : goal.bare_atom-returns-in-Some-clause-read
bare_atom-returns-in-Some-clause-read t c =
    let a = c.in-Some in
    let h = c.in_ok-characters.ensures in
    enclosed a.quote 34 a.inside.now a.ensures (literal_part h.spelled) (ap not h.not_empty) h.shorter (h.goes_on c.args.self.depth)

pub bare_atom-returns-in_err-characters-clause-fault : goal.bare_atom-returns-in_err-characters-clause-fault
bare_atom-returns-in_err-characters-clause-fault t c =
    let e = c.from_residual in
    let first = ap (fault_from c.args.self.end (Outside c.args.self.depth Nothing)) c.in-Some.ensures.0 in
    hands_on e.result _ e.ensures (λ f g. first ∙ g c.args.self.depth) c.in_err-characters.ensures.fault

pub bare_atom-returns-in-Some-strip-clause-read : goal.bare_atom-returns-in-Some-strip-clause-read
bare_atom-returns-in-Some-strip-clause-read t c =
    let a = c.in-Some-strip in
    let h = c.in_ok-negated.ensures in
    enclosed a.bracket 91 a.inside.now a.ensures (class_part c.in_ok-negated.negated h.spelled) (rw (h.ordered, h.not_empty) refl) h.shorter (h.goes_on c.args.self.depth)

pub bare_atom-returns-in_err-negated-clause-fault : goal.bare_atom-returns-in_err-negated-clause-fault
bare_atom-returns-in_err-negated-clause-fault t c =
    let e = c.from_residual-in_err-negated in
    let first = ap (fault_from c.args.self.end (Outside c.args.self.depth Nothing)) c.in-Some-strip.ensures.0 in
    hands_on e.result _ e.ensures (λ f g. first ∙ g c.args.self.depth) c.in_err-negated.ensures.fault

pub bare_atom-returns-clause-read : goal.bare_atom-returns-clause-read
bare_atom-returns-clause-read t c =
    let a = c.in-Some-strip-2 in
    let b = c.in-Some-strip-3 in
    as_group a.field-0-0 b.field-0-0 a.inside.now a.ensures c.if-self-lt64.true c.in_ok-part.ensures.read b.ensures

pub bare_atom-returns-in_err-part-clause-fault : goal.bare_atom-returns-in_err-part-clause-fault
bare_atom-returns-in_err-part-clause-fault t c =
    let e = c.from_residual-in_err-part in
    let first = group_opens c.args.self.end c.args.self.depth c.in-Some-strip-2.field-0-0 _ _ c.in-Some-strip-2.ensures.0 c.if-self-lt64.true in
    hands_on e.result _ e.ensures (λ f g. first ∙ g) c.in_err-part.ensures.fault

pub bare_atom-returns-in_default-strip-2-clause-fault : goal.bare_atom-returns-in_default-strip-2-clause-fault
bare_atom-returns-in_default-strip-2-clause-fault t c =
    let first = group_opens c.args.self.end c.args.self.depth c.in-Some-strip-2.field-0-0 _ _ c.in-Some-strip-2.ensures.0 c.if-self-lt64.true ∙ c.in_ok-part.ensures.read.goes_on in
    rw c.fault.ensures (first ∙ unclosed c.args.self.end c.args.self.depth _ c.in_ok-part.ensures.stops c.in_default-strip-2.ensures)
