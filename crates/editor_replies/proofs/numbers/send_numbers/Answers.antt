use Rattle.std.proofs.Common.{refl, arith}
use Rattle.std.proofs.lemmas.Result.{on_ok_weaker}
use Rattle.serde_json.specs.Data.{number, unsigned}
use Rattle.replies.proofs.SentItems.{sent_more, all_sent}
use Rattle.editor_replies.specs.Sending.{number_items}
use Rattle.editor_replies.proofs.numbers.send_numbers.Goals as goal

pub loop-number-preserved : goal.loop-number-preserved
loop-number-preserved g c = λ end rest.
    let w = g.S.Serializer.written in
    c.loop-number.invariant end (sent_more (λ n. number (unsigned n)) number_items refl (λ x l. refl) c.args.numbers.now c.loop-number.number-index _
    (w c.loop-number.out) (w c.u64.new.self) end (omega arith) c.in_ok-u64.ensures rest)

pub returns : goal.returns
returns g c =
    let w = g.S.Serializer.written in
    on_ok_weaker c.end_seq.result
    (λ e. all_sent (λ n. number (unsigned n)) number_items refl (λ x l. refl) c.args.numbers.now c.loop-number.number-index
    (w c.args.out.now) (w c.begin_seq.new.self) (w c.loop-number.out) (w c.end_seq.new.self)
    (omega arith) c.in_ok-begin_seq.ensures e c.loop-number.invariant)
    c.end_seq.ensures
