use Rattle.std.proofs.Common.{map, refl, arith}
use Rattle.std.proofs.lemmas.Result.{on_ok_weaker}
use Rattle.serde_json.specs.Data.{string}
use Rattle.replies.proofs.SentItems.{sent_more, all_sent}
use Rattle.editor_replies.specs.Sending.{text_items}
use Rattle.editor_replies.proofs.sending.send_texts.Goals as goal

pub loop-text-preserved : goal.loop-text-preserved
loop-text-preserved g c = λ end rest.
    let w = g.S.Serializer.written in
    c.loop-text.invariant end (sent_more (λ t. string t.now) (λ l. text_items (map (λ text. text.now) l)) refl (λ x l. refl) c.args.texts.now c.loop-text.text-index _
    (w c.loop-text.out) (w c.str.new.self) end (omega arith) c.in_ok-str.ensures rest)

pub returns : goal.returns
returns g c =
    let w = g.S.Serializer.written in
    on_ok_weaker c.end_seq.result
    (λ e. all_sent (λ t. string t.now) (λ l. text_items (map (λ text. text.now) l)) refl (λ x l. refl) c.args.texts.now c.loop-text.text-index
    (w c.args.out.now) (w c.begin_seq.new.self) (w c.loop-text.out) (w c.end_seq.new.self)
    (omega arith) c.in_ok-begin_seq.ensures e c.loop-text.invariant)
    c.end_seq.ensures
