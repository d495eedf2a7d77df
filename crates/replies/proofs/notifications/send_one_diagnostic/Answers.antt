use Rattle.replies.proofs.Std.{on_ok_weaker}
use Rattle.replies.proofs.notifications.send_one_diagnostic.Goals as goal

pub returns : goal.returns
returns g c =
    let w = g.S.Serializer.written in
    on_ok_weaker c.end_seq.result
    (λ e. (w c.begin_seq.new.self, c.in_ok-begin_seq.ensures, (w c.send_diagnostic.new.out, c.in_ok-send_diagnostic.ensures, e)))
    c.end_seq.ensures
