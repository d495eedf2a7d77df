use Rattle.std.proofs.Common.{drop, map}
use Rattle.serde.specs.Event.{Log}
use Rattle.serde_json.specs.Events.{SendsItems}
use Rattle.editor_replies.specs.Sent.{symbol_view}
use Rattle.editor_replies.specs.Sending.{listed_items}
use Rattle.editor_replies.proofs.symbols.send_list.Given as goal

-- whatever sends what is left sends all
abbrev pub invariant-loop-symbol : goal.invariant-loop-symbol
invariant-loop-symbol g l =
    (end : Log) → SendsItems (listed_items l.uri (map symbol_view (drop l.symbol-index l.symbols))) (g.S.Serializer.written l.out) end
    → SendsItems (listed_items l.uri (map symbol_view l.symbols)) (g.S.Serializer.written l.initial.out) end
