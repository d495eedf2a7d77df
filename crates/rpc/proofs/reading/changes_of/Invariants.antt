use Rattle.rpc.proofs.Std.{◌≡◌, ◌++◌, List, map, drop, option_map, items_view}
use Rattle.rpc.proofs.Common.{TextChange, change_view, changes_of}
use Rattle.rpc.proofs.reading.changes_of.Given as goal

-- the changes so far, and those of what is left
abbrev pub invariant-loop-item : goal.invariant-loop-item
invariant-loop-item l = changes_of (items_view l.items)
    ≡ option_map (λ (rest : List TextChange). map change_view l.changes.items ++ rest) (changes_of (items_view (drop l.item-index l.items)))
