use Rattle.views.proofs.Std.{◌≡◌, ◌++◌, map, reverse}
use Rattle.views.proofs.Common.{range_of}
use Rattle.views.proofs.selections.ranges_of.Given as goal

abbrev pub invariant-loop-start : goal.invariant-loop-start
invariant-loop-start l = l.ranges.items ++ reverse (map (range_of l.unit l.text) l.start-iterator.iter.rest.now) ≡ reverse (map (range_of l.unit l.text) l.offsets)
