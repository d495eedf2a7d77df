use Rattle.std.proofs.Common.{drop, map}
use Rattle.serde.specs.Event.{Log}
use Rattle.serde_json.specs.Events.{SendsItems}
use Rattle.editor_replies.specs.Sending.{text_items}
use Rattle.editor_replies.proofs.sending.send_texts.Given as goal

-- whatever sends what is left sends all
abbrev pub invariant-loop-text : goal.invariant-loop-text
invariant-loop-text g l =
    (end : Log) → SendsItems (text_items (map (λ text. text.now) (drop l.text-index l.texts))) (g.S.Serializer.written l.out) end
    → SendsItems (text_items (map (λ text. text.now) l.texts)) (g.S.Serializer.written l.initial.out) end
