use Rattle.rpc.proofs.Std.{◌≡◌, drop, items_view}
use Rattle.rpc.proofs.Common.{first_unit}
use Rattle.rpc.proofs.parts.first_unit.Given as goal

-- none of the items so far names a unit
abbrev pub invariant-loop-item : goal.invariant-loop-item
invariant-loop-item l = first_unit (items_view l.items) ≡ first_unit (items_view (drop l.item-index l.items))
