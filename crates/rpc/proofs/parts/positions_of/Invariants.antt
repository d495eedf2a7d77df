use Rattle.rpc.proofs.Std.{◌≡◌, ◌++◌, List, drop, option_map, items_view}
use Rattle.rpc.proofs.Common.{Position, positions_of}
use Rattle.rpc.proofs.parts.positions_of.Given as goal

-- the positions so far, and those of what is left
abbrev pub invariant-loop-item : goal.invariant-loop-item
invariant-loop-item l = positions_of (items_view l.items)
    ≡ option_map (λ (rest : List Position). l.positions.items ++ rest) (positions_of (items_view (drop l.item-index l.items)))
