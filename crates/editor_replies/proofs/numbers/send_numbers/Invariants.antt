use Rattle.std.proofs.Common.{drop}
use Rattle.serde.specs.Event.{Log}
use Rattle.serde_json.specs.Events.{SendsItems}
use Rattle.editor_replies.specs.Sending.{number_items}
use Rattle.editor_replies.proofs.numbers.send_numbers.Given as goal

-- whatever sends what is left sends all
abbrev pub invariant-loop-number : goal.invariant-loop-number
invariant-loop-number g l =
    (end : Log) → SendsItems (number_items (drop l.number-index l.numbers)) (g.S.Serializer.written l.out) end
    → SendsItems (number_items l.numbers) (g.S.Serializer.written l.initial.out) end
