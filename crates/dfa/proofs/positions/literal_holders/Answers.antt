use Rattle.dfa.proofs.Std.{ℕ, ◌+◌, ◌++◌, drop, ap, ◌∙◌, arith, Vec, Global}
use Rattle.dfa.proofs.Common.{literal_holders}
use Rattle.dfa.proofs.Loops.{at_index, held_more, other_more}
use Rattle.dfa.proofs.positions.literal_holders.Goals as goal
use Rattle.dfa.proofs.positions.literal_holders.Goals.{then-d-c+in_ok-push, else-d-c}

pub loop-d-preserved : goal.loop-d-preserved
loop-d-preserved c =
    let all = c.args.characters.now in
    let held = c.args.c in
    let i = c.loop-d.d-index in
    let at = c.loop-d.at in
    let d = c.d-item.result in
    let out = c.loop-d.out.items in
    let whole = c.args.out.now.items ++ literal_holders held c.args.at.now all in
    let here = at_index all i d c.loop-d-test.true c.d-item.is in
    record {
      past = omega arith;
      holders = elim c.if-d-c.branch [
        | then-d-c+in_ok-push w ↦ held_more held at d (drop i all) (drop (i + 1) all) out c.if-d-c.out.items whole here w.if-d-c.true
            (ap (λ (v : Vec ℕ Global). v.items) w.out-is ∙ w.in_ok-push.ensures.items) c.loop-d.invariant.holders
        | else-d-c w ↦ other_more held at d (drop i all) (drop (i + 1) all) out c.if-d-c.out.items whole here w.if-d-c.false (ap (λ (v : Vec ℕ Global). v.items) w.out-is) c.loop-d.invariant.holders
      ];
    }
