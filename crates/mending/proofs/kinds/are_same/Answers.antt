use Rattle.std.proofs.Common.{◌<◌, length, rules, sym}
use Rattle.mending.proofs.Mended.{both_taken}
use Rattle.mending.proofs.kinds.are_same.Goals as goal

pub loop-k-preserved : goal.loop-k-preserved
loop-k-preserved g c =
    let list = c.args.list.now in
    let within : c.loop-k.k < length list = search rules in
    record {
      same = both_taken list (g.K.Kinds.kinds c.args.kinds.now) c.loop-k.k _ c.in-Some.kind within (c.is_same.ensures.0 c.if-not-is_same.false)
          (sym c.in-Some.ensures.is) c.loop-k.invariant.same;
      before = c.in-Some.ensures.moved;
    }
