use Rattle.replies.proofs.Std.{map, drop, Log, SendsItems, items_of}
use Rattle.replies.proofs.Common.{selection_data}
use Rattle.replies.proofs.results.send_selections.Given as goal

-- whatever sends what is left sends all
abbrev pub invariant-loop-ranges : goal.invariant-loop-ranges
invariant-loop-ranges g l =
    (end : Log) → SendsItems (items_of (map selection_data (map (λ s. s.items) (drop l.ranges-index l.selections)))) (g.S.Serializer.written l.out) end
    → SendsItems (items_of (map selection_data (map (λ s. s.items) (l.selections)))) (g.S.Serializer.written l.initial.out) end
