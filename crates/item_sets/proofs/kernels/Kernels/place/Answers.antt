use Rattle.std.proofs.Common.{sym}
use Rattle.item_sets.proofs.VectorSets.{found_place}
use Rattle.item_sets.proofs.kernels.Kernels.place.Goals as goal

pub returns-in-Some-clause-place : goal.returns-in-Some-clause-place
returns-in-Some-clause-place c = rw (← c.self.view_is) (found_place c.self.inside.set.keys c.args.kernel.now c.in-Some.index (sym c.in-Some.ensures.index))
