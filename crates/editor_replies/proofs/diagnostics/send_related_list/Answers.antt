use Rattle.std.proofs.lemmas.Result.{on_ok_weaker}
use Rattle.editor_replies.proofs.diagnostics.send_related_list.Goals as goal

pub returns : goal.returns
returns g c =
    let w = g.S.Serializer.written in
    on_ok_weaker c.end_seq.result
    (λ e. (w c.begin_seq.new.self, c.in_ok-begin_seq.ensures, (w c.send_related.new.out, c.in_ok-send_related.ensures, e)))
    c.end_seq.ensures
