use Rattle.std.proofs.Common.{map, refl, subst, arith}
use Rattle.serde_json.specs.Events.{SendsValue}
use Rattle.std.proofs.lemmas.Result.{on_ok_weaker}
use Rattle.replies.proofs.SentItems.{sent_more, all_sent}
use Rattle.editor_replies.specs.Sent.{symbol_view}
use Rattle.editor_replies.specs.Sending.{listed_data, listed_items}
use Rattle.editor_replies.proofs.symbols.send_list.Goals as goal

pub loop-symbol-preserved : goal.loop-symbol-preserved
loop-symbol-preserved g c = λ end rest.
    let w = g.S.Serializer.written in
    let uri = c.args.uri.now in
    let one = subst (λ s. SendsValue (listed_data uri (symbol_view s)) (w c.loop-symbol.out) (w c.send_listed.new.out)) c.symbol-item.is c.in_ok-send_listed.ensures in
    c.loop-symbol.invariant end (sent_more (λ s. listed_data uri (symbol_view s)) (λ l. listed_items uri (map symbol_view l)) refl (λ x l. refl) c.args.symbols.now
    c.loop-symbol.symbol-index c.symbol-item.result (w c.loop-symbol.out) (w c.send_listed.new.out) end (omega arith) one rest)

pub returns : goal.returns
returns g c =
    let w = g.S.Serializer.written in
    let uri = c.args.uri.now in
    on_ok_weaker c.end_seq.result
    (λ e. all_sent (λ s. listed_data uri (symbol_view s)) (λ l. listed_items uri (map symbol_view l)) refl (λ x l. refl) c.args.symbols.now
    c.loop-symbol.symbol-index (w c.args.out.now) (w c.begin_seq.new.self) (w c.loop-symbol.out) (w c.end_seq.new.self)
    (omega arith) c.in_ok-begin_seq.ensures e c.loop-symbol.invariant)
    c.end_seq.ensures
