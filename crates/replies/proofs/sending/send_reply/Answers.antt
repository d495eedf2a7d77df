use Rattle.replies.proofs.Std.{◌≡◌, Result, rules, map, sym, subst, to_z, of_z, to_z-of_z, w32, OnOk, ⊤, Log, SendsValue}
use Rattle.replies.proofs.Common.{Reply, id_view, text_reply, selections_reply, reply_data, reply_view}
use Rattle.replies.proofs.sending.send_reply.Goals as goal

-- what was sent of the reply that it is
sent_of : {E : Type 0} (result : Result ⊤ E) (old new : Log) (reply is : Reply) → reply ≡ is → OnOk result (SendsValue (reply_data (reply_view is)) old new)
    → OnOk result (SendsValue (reply_data (reply_view reply)) old new)
sent_of result old new reply is same = subst (λ r. OnOk result (SendsValue (reply_data (reply_view r)) old new)) (sym same)

pub returns-in-Capabilities : goal.returns-in-Capabilities
returns-in-Capabilities g c =
    sent_of c.send_result.result (g.S.Serializer.written c.args.out.now) (g.S.Serializer.written c.send_result.new.out) c.args.reply.now _ c.in-Capabilities.is c.send_result.ensures

pub returns-in-Text : goal.returns-in-Text
returns-in-Text g c =
    let w = g.S.Serializer.written in
    let old = w c.args.out.now in
    let new = w c.send_result-in-Text.new.out in
    let same : to_z w32 (of_z w32 c.in-Text.version) ≡ c.in-Text.version = to_z-of_z {w = w32} {z = c.in-Text.version} (search rules) in
    let at_version = subst (λ v. OnOk c.send_result-in-Text.result (SendsValue (reply_data (text_reply (id_view c.in-Text.id) v c.as_str.result.now)) old new)) same c.send_result-in-Text.ensures in
    let at_text = subst (λ t. OnOk c.send_result-in-Text.result (SendsValue (reply_data (text_reply (id_view c.in-Text.id) c.in-Text.version t)) old new)) c.as_str.ensures.value at_version in
    sent_of c.send_result-in-Text.result old new c.args.reply.now _ c.in-Text.is at_text

pub returns-in-Stats : goal.returns-in-Stats
returns-in-Stats g c =
    sent_of c.send_result-in-Stats.result (g.S.Serializer.written c.args.out.now)
    (g.S.Serializer.written c.send_result-in-Stats.new.out) c.args.reply.now _ c.in-Stats.is c.send_result-in-Stats.ensures

pub returns-in-Selections : goal.returns-in-Selections
returns-in-Selections g c =
    let old = g.S.Serializer.written c.args.out.now in
    let new = g.S.Serializer.written c.send_result-in-Selections.new.out in
    let at_items = subst (λ l. OnOk c.send_result-in-Selections.result (SendsValue (reply_data (selections_reply (id_view c.in-Selections.id) (map (λ s. s.items) l))) old new))
    c.deref-in-Selections.ensures.value c.send_result-in-Selections.ensures in
    sent_of c.send_result-in-Selections.result old new c.args.reply.now _ c.in-Selections.is at_items

pub returns-in-Error : goal.returns-in-Error
returns-in-Error g c =
    sent_of c.send_error.result (g.S.Serializer.written c.args.out.now) (g.S.Serializer.written c.send_error.new.out) c.args.reply.now _ c.in-Error.is c.send_error.ensures
