use Rattle.std.proofs.Common.{◌≡◌, Result, map, string_bytes, subst, sym}
use Rattle.std.specs.Prelude.{OnOk, ⊤, option_map}
use Rattle.serde.specs.Event.{Log}
use Rattle.serde_json.specs.Events.{SendsValue}
use Rattle.replies.specs.Ids.{id_view}
use Rattle.editor_replies.specs.Sent.{capabilities, change_view, changes, colours, message_view, offer_view, offers, outline, symbol_view}
use Rattle.editor_replies.specs.Sending.{message_data}
use Rattle.editor_replies.specs.declared.sent.Sent.{Sent}
use Rattle.editor_replies.proofs.sending.send_message.Goals as goal

-- what was sent of the message that it is
sent_of : {E : Type 0} (result : Result ⊤ E) (old new : Log) (message is : Sent) → message ≡ is → OnOk result (SendsValue (message_data (message_view is)) old new)
    → OnOk result (SendsValue (message_data (message_view message)) old new)
sent_of result old new message is same = subst (λ m. OnOk result (SendsValue (message_data (message_view m)) old new)) (sym same)

pub returns-in-Capabilities : goal.returns-in-Capabilities
returns-in-Capabilities g c =
    let w = g.S.Serializer.written in
    let old = w c.args.out.now in
    let new = w c.send_result.new.out in
    let it = c.in-Capabilities in
    let types = map (λ text. text.now) it.types.now in
    let at_name = subst (λ name. OnOk c.send_result.result (SendsValue (message_data (capabilities (id_view it.id) it.unit name c.as_str-in-Capabilities.result.now types)) old new))
    c.as_str.ensures.value c.send_result.ensures in
    let at_comment = subst (λ comment. OnOk c.send_result.result (SendsValue (message_data (capabilities (id_view it.id) it.unit (string_bytes it.name) comment types)) old new))
    c.as_str-in-Capabilities.ensures.value at_name in
    sent_of c.send_result.result old new c.args.message.now _ it.is at_comment

pub returns-in-Fault : goal.returns-in-Fault
returns-in-Fault g c =
    let w = g.S.Serializer.written in
    sent_of c.send_worded.result (w c.args.out.now) (w c.send_worded.new.out) c.args.message.now _ c.in-Fault.is c.send_worded.ensures

pub returns-in-Changes : goal.returns-in-Changes
returns-in-Changes g c =
    let w = g.S.Serializer.written in
    let old = w c.args.out.now in
    let new = w c.send_result-in-Changes.new.out in
    let it = c.in-Changes in
    let at_name = subst (λ name. OnOk c.send_result-in-Changes.result (SendsValue (message_data (changes (id_view it.id) name (option_map change_view it.change))) old new))
    c.as_str-in-Changes.ensures.value c.send_result-in-Changes.ensures in
    sent_of c.send_result-in-Changes.result old new c.args.message.now _ it.is at_name

pub returns-in-Colours : goal.returns-in-Colours
returns-in-Colours g c =
    let w = g.S.Serializer.written in
    let old = w c.args.out.now in
    let new = w c.send_result-in-Colours.new.out in
    let it = c.in-Colours in
    let result = c.send_result-in-Colours.result in
    let at_name = subst (λ name. OnOk result (SendsValue (message_data (colours (id_view it.id) name c.deref.result.now)) old new)) c.lent.ensures c.send_result-in-Colours.ensures in
    let at_items = subst (λ numbers. OnOk result (SendsValue (message_data (colours (id_view it.id) (option_map (λ text. string_bytes text) it.name) numbers)) old new))
    c.deref.ensures.value at_name in
    sent_of result old new c.args.message.now _ it.is at_items

pub returns-in-Offers : goal.returns-in-Offers
returns-in-Offers g c =
    let w = g.S.Serializer.written in
    let old = w c.args.out.now in
    let new = w c.send_result-in-Offers.new.out in
    let it = c.in-Offers in
    let result = c.send_result-in-Offers.result in
    let at_found = subst (λ found. OnOk result (SendsValue (message_data (offers (id_view it.id) it.range (map offer_view found))) old new))
    c.deref-in-Offers.ensures.value c.send_result-in-Offers.ensures in
    sent_of result old new c.args.message.now _ it.is at_found

pub returns-in-Outline : goal.returns-in-Outline
returns-in-Outline g c =
    let w = g.S.Serializer.written in
    let old = w c.args.out.now in
    let new = w c.send_result-in-Outline.new.out in
    let it = c.in-Outline in
    let result = c.send_result-in-Outline.result in
    let at_uri = subst (λ uri. OnOk result (SendsValue (message_data (outline (id_view it.id) uri (map symbol_view c.deref-in-Outline.result.now))) old new))
    c.lent-in-Outline.ensures c.send_result-in-Outline.ensures in
    let at_symbols = subst (λ symbols. OnOk result (SendsValue (message_data (outline (id_view it.id) (option_map (λ text. string_bytes text) it.list_of) (map symbol_view symbols))) old new))
    c.deref-in-Outline.ensures.value at_uri in
    sent_of result old new c.args.message.now _ it.is at_symbols

pub returns-in-Hover : goal.returns-in-Hover
returns-in-Hover g c =
    let w = g.S.Serializer.written in
    sent_of c.send_result-in-Hover.result (w c.args.out.now) (w c.send_result-in-Hover.new.out) c.args.message.now _ c.in-Hover.is c.send_result-in-Hover.ensures

pub returns-in-Brackets : goal.returns-in-Brackets
returns-in-Brackets g c =
    let w = g.S.Serializer.written in
    sent_of c.send_result-in-Brackets.result (w c.args.out.now) (w c.send_result-in-Brackets.new.out) c.args.message.now _ c.in-Brackets.is
    c.send_result-in-Brackets.ensures
