use Rattle.item_sets.proofs.Std.{refl, length-map, arith}
use Rattle.item_sets.proofs.VectorSets.{items_of, found_items, list_after}
use Rattle.item_sets.proofs.kernels.Kernels.add.Goals as goal
use Rattle.item_sets.proofs.kernels.Kernels.add.Goals.{in-Ok, in-Err}

pub returns-clause-place : goal.returns-clause-place
returns-clause-place c = elim c.match-insert_full.branch [
  | in-Ok w ↦
      let keys = c.insert_full.new.self.keys in
      let k = w.in-Ok.ensures.stored in
      let below = w.in-Ok.ensures.within in
      let n = length-map keys items_of in
      rw w.result-is (omega (arith, below, n), found_items keys c.args.kernel k.0 w.in-Ok.index below k.1 k.2)
  | in-Err w ↦ rw w.result-is tt
]

pub returns-clause-list : goal.returns-clause-list
returns-clause-list c = elim c.match-insert_full.branch [
  | in-Ok w ↦ rw (w.result-is, w.in-Ok.ensures.keys, ← c.self.view_is) (list_after c.self.inside.set.keys c.args.kernel _ refl)
  | in-Err w ↦ rw w.result-is tt
]
