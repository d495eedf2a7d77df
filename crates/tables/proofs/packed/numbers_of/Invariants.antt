use Rattle.std.proofs.Common.{◌≡◌, map, take}
use Rattle.tables.proofs.packed.numbers_of.Given as goal

abbrev pub invariant-loop-entry : goal.invariant-loop-entry
invariant-loop-entry g l = map g.T.Small.meant l.numbers.items ≡ take l.entry-index l.entries
