use Rattle.replies.proofs.Std.{map, drop, Log, SendsItems, items_of}
use Rattle.replies.proofs.Common.{fold_data}
use Rattle.replies.proofs.results.send_folds.Given as goal

-- whatever sends what is left sends all
abbrev pub invariant-loop-pair : goal.invariant-loop-pair
invariant-loop-pair g l =
    (end : Log) → SendsItems (items_of (map fold_data (drop l.pair-index l.pairs))) (g.S.Serializer.written l.out) end
    → SendsItems (items_of (map fold_data (l.pairs))) (g.S.Serializer.written l.initial.out) end
