use Rattle.std.proofs.Common.{◌≡◌, ◌+◌, ◌∙◌, length, rules, subst, Some, ap, map}
use Rattle.std.proofs.lemmas.Result.{on_ok_weaker}
use Rattle.serde.specs.Event.{Log, Logs, seq_begins, seq_ends}
use Rattle.serde_json.specs.Events.{SendsItems}
use Rattle.serde_json.specs.View.{view}
use Rattle.editor_replies.specs.Sending.{value_items}
use Rattle.editor_replies.proofs.Counts.{one_more}
use Rattle.editor_replies.proofs.diagnostics.send_fault_list.Goals as goal

pub returns : goal.returns
returns g c =
    let w = g.S.Serializer.written in
    let values = c.args.fault.now.behind.items in
    let count : c.len.result ≡ length values = search rules in
    let begun = subst (λ n. Logs (w c.args.out.now) (w c.begin_seq.new.self) (seq_begins (Some n))) (ap (λ n. n + 1) count ∙ one_more values)
    c.in_ok-begin_seq.ensures in
    let rest = subst (λ l. (end : Log) → Logs (w c.send_values.new.out) end seq_ends → SendsItems (value_items (map view l)) (w c.send_fault.new.out) end)
    c.deref.ensures.value c.in_ok-send_values.ensures in
    on_ok_weaker c.end_seq.result
    (λ e. (w c.begin_seq.new.self, begun, (w c.send_fault.new.out, c.in_ok-send_fault.ensures, rest (w c.end_seq.new.self) e)))
    c.end_seq.ensures
