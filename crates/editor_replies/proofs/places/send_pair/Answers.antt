use Rattle.std.proofs.lemmas.Result.{on_ok_weaker}
use Rattle.editor_replies.proofs.places.send_pair.Goals as goal

pub returns : goal.returns
returns g c =
    let w = g.S.Serializer.written in
    on_ok_weaker c.end_seq.result
    (λ e. (
      w c.begin_seq.new.self,
      c.in_ok-begin_seq.ensures,
      (w c.send_highlight.new.out, c.in_ok-send_highlight.ensures, (w c.send_highlight-2.new.out, c.in_ok-send_highlight-2.ensures, e)),
    ))
    c.end_seq.ensures
