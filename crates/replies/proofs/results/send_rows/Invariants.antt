use Rattle.replies.proofs.Std.{map, drop, Log, SendsItems, items_of}
use Rattle.replies.proofs.Common.{row_data, row_view}
use Rattle.replies.proofs.results.send_rows.Given as goal

-- whatever sends what is left sends all
abbrev pub invariant-loop-row : goal.invariant-loop-row
invariant-loop-row g l =
    (end : Log) → SendsItems (items_of (map row_data (map row_view (drop l.row-index l.rows)))) (g.S.Serializer.written l.out) end
    → SendsItems (items_of (map row_data (map row_view l.rows))) (g.S.Serializer.written l.initial.out) end
