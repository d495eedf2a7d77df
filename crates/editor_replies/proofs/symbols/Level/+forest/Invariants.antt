use Rattle.std.proofs.Common.{◌+◌, ◌*◌, drop, map}
use Rattle.serde.specs.Event.{Log}
use Rattle.serde_json.specs.Events.{SendsItems}
use Rattle.editor_replies.specs.Sent.{symbol_view}
use Rattle.editor_replies.specs.Sending.{forest}
use Rattle.editor_replies.proofs.symbols.Level.+forest.Given as goal

abbrev pub decreases-send : goal.decreases-send
decreases-send g l = 3 * l.self.levels + 2

abbrev pub decreases-send_symbol : goal.decreases-send_symbol
decreases-send_symbol g l = 3 * l.self.levels + 1

abbrev pub decreases-send_below : goal.decreases-send_below
decreases-send_below g l = 3 * l.self.levels

-- whatever sends what is left sends all
abbrev pub invariant-send-loop-at : goal.invariant-send-loop-at
invariant-send-loop-at g l =
    (end : Log) → SendsItems (forest l.self.levels l.self.depth (map symbol_view (drop l.at l.symbols))) (g.S.Serializer.written l.out) end
    → SendsItems (forest l.self.levels l.self.depth (map symbol_view l.symbols)) (g.S.Serializer.written l.initial.out) end
