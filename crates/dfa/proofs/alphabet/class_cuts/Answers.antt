use Rattle.dfa.proofs.Std.{rules, ◌≡◌, ◌+◌, ◌++◌, drop, slice_index_or, at_drop_more}
use Rattle.dfa.proofs.Common.{Interval, cut, class_cuts}
use Rattle.dfa.proofs.JoinedLists.{one_more}
use Rattle.dfa.proofs.alphabet.class_cuts.Goals as goal

pub loop-i-preserved : goal.loop-i-preserved
loop-i-preserved c =
    let xs = c.args.intervals.now in
    let i = c.loop-i.i-index in
    let d : Interval = record { first = 0; last = 0 } in
    let x = slice_index_or xs i d in
    let e : c.cut.new.out.items ≡ c.loop-i.out.items ++ cut x.first x.last = search rules in
    record {
      cuts = one_more _ _ (cut x.first x.last) (class_cuts (drop i xs)) (class_cuts (drop (i + 1) xs)) _ e (at_drop_more class_cuts xs i d c.loop-i-test.true) c.loop-i.invariant.cuts;
      characters = λ h. c.in_ok-cut.ensures.characters (c.loop-i.invariant.characters h);
    }
