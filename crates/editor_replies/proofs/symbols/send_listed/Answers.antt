use Rattle.std.proofs.Common.{subst}
use Rattle.serde.specs.Event.{Logs, text}
use Rattle.replies.proofs.Objects.{sends_object, sends_member}
use Rattle.editor_replies.proofs.symbols.send_listed.Goals as goal

pub returns : goal.returns
returns g c =
    let w = g.S.Serializer.written in
    sends_object _ _ _ c.end_map.result c.in_ok-begin_map.ensures
    (λ e. sends_member _ _ c.in_ok-key.ensures c.in_ok-u64.ensures
    (sends_member _ _ c.in_ok-key-2.ensures c.in_ok-send_location.ensures
    (sends_member _ _ c.in_ok-key-3.ensures (subst (λ s. Logs (w c.key-3.new.self) (w c.str.new.self) (text s)) c.as_str.ensures.value c.in_ok-str.ensures) e)))
    c.end_map.ensures
