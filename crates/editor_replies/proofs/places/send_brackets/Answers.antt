use Rattle.std.proofs.Common.{option_map, subst, sym}
use Rattle.std.specs.Prelude.{OnOk}
use Rattle.std.proofs.lemmas.Result.{on_ok_weaker}
use Rattle.serde_json.specs.Events.{SendsValue}
use Rattle.editor_replies.specs.Sending.{brackets_result}
use Rattle.editor_replies.specs.Sent.{pair_view}
use Rattle.editor_replies.proofs.places.send_brackets.Goals as goal

pub returns-in_ok-begin_seq-in-None : goal.returns-in_ok-begin_seq-in-None
returns-in_ok-begin_seq-in-None g c =
    let w = g.S.Serializer.written in
    subst (λ p. OnOk c.end_seq.result (SendsValue (brackets_result (option_map pair_view p)) (w c.args.out.now) (w c.end_seq.new.self))) (sym c.in-None.is)
    (on_ok_weaker c.end_seq.result (λ e. (w c.begin_seq.new.self, c.in_ok-begin_seq-in-None.ensures, e)) c.end_seq.ensures)

pub returns-in-Some : goal.returns-in-Some
returns-in-Some g c =
    let w = g.S.Serializer.written in
    subst (λ p. OnOk c.send_pair.result (SendsValue (brackets_result (option_map pair_view p)) (w c.args.out.now) (w c.send_pair.new.out))) (sym c.in-Some.is)
    c.send_pair.ensures
