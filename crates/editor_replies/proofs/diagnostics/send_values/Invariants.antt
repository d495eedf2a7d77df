use Rattle.std.proofs.Common.{drop, map}
use Rattle.serde.specs.Event.{Log}
use Rattle.serde_json.specs.Events.{SendsItems}
use Rattle.serde_json.specs.View.{view}
use Rattle.editor_replies.specs.Sending.{value_items}
use Rattle.editor_replies.proofs.diagnostics.send_values.Given as goal

-- whatever sends what is left sends all
abbrev pub invariant-loop-value : goal.invariant-loop-value
invariant-loop-value g l =
    (end : Log) → SendsItems (value_items (map view (drop l.value-index l.values))) (g.S.Serializer.written l.out) end
    → SendsItems (value_items (map view l.values)) (g.S.Serializer.written l.initial.out) end
