use Rattle.std.proofs.Common.{subst}
use Rattle.serde.specs.Event.{Logs, text}
use Rattle.replies.proofs.Objects.{sends_object, sends_member}
use Rattle.editor_replies.proofs.sending.send_capability_list.Goals as goal

pub returns : goal.returns
returns g c =
    let w = g.S.Serializer.written in
    sends_object _ _ _ c.end_map.result c.in_ok-begin_map.ensures
    (λ e. sends_member _ _ c.in_ok-key.ensures c.in_ok-bool.ensures
    (sends_member _ _ c.in_ok-key-2.ensures c.in_ok-send_offers_option.ensures
    (sends_member _ _ c.in_ok-key-3.ensures c.in_ok-bool-2.ensures
    (sends_member _ _ c.in_ok-key-4.ensures c.in_ok-bool-3.ensures
    (sends_member _ _ c.in_ok-key-5.ensures c.in_ok-send_experimental.ensures
    (sends_member _ _ c.in_ok-key-6.ensures c.in_ok-bool-4.ensures
    (sends_member _ _ c.in_ok-key-7.ensures c.in_ok-bool-5.ensures
    (sends_member _ _ c.in_ok-key-8.ensures (subst (λ s. Logs (w c.key-8.new.self) (w c.str.new.self) (text s)) c.unit_name.ensures c.in_ok-str.ensures)
    (sends_member _ _ c.in_ok-key-9.ensures c.in_ok-bool-6.ensures
    (sends_member _ _ c.in_ok-key-10.ensures c.in_ok-send_colours_options.ensures
    (sends_member _ _ c.in_ok-key-11.ensures c.in_ok-send_synchronisation.ensures e)))))))))))
    c.end_map.ensures
