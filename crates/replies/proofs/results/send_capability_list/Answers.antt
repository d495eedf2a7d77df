use Rattle.replies.proofs.Std.{subst, Logs, text}
use Rattle.replies.proofs.Objects.{sends_object, sends_member}
use Rattle.replies.proofs.results.send_capability_list.Goals as goal

pub returns : goal.returns
returns g c =
    let w = g.S.Serializer.written in
    sends_object _ _ _ c.end_map.result c.in_ok-begin_map.ensures
    (λ e. sends_member _ _ c.in_ok-key.ensures c.in_ok-bool.ensures
    (sends_member _ _ c.in_ok-key-2.ensures (subst (λ s. Logs (w c.key-2.new.self) (w c.str.new.self) (text s)) c.unit_name.ensures c.in_ok-str.ensures)
    (sends_member _ _ c.in_ok-key-3.ensures c.in_ok-bool-2.ensures
    (sends_member _ _ c.in_ok-key-4.ensures c.in_ok-send_synchronisation.ensures e))))
    c.end_map.ensures
