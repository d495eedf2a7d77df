use Rattle.std.proofs.Common.{◌≡◌, ℕ, length, subst, arith}
use Rattle.dfa.proofs.MarkedSets.{Written, written_blank, written_marks}
use Rattle.dfa.proofs.states.write.Goals as goal

pub returns-clause-marks : goal.returns-clause-marks
returns-clause-marks c =
    let set = c.args.positions.now in
    let all : c.loop-p.p-index ≡ length set = omega arith in
    written_marks set c.args.value c.args.marks.now.items c.loop-p.marks.items (subst (λ (n : ℕ). Written set c.args.value c.args.marks.now.items c.loop-p.marks.items n) all c.loop-p.invariant)

pub returns-clause-blank : goal.returns-clause-blank
returns-clause-blank c =
    let set = c.args.positions.now in
    let all : c.loop-p.p-index ≡ length set = omega arith in
    written_blank set c.args.value c.args.marks.now.items c.loop-p.marks.items (subst (λ (n : ℕ). Written set c.args.value c.args.marks.now.items c.loop-p.marks.items n) all c.loop-p.invariant)
