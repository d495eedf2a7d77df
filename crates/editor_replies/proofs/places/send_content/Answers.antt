use Rattle.replies.proofs.Objects.{sends_object, sends_member}
use Rattle.editor_replies.proofs.places.send_content.Goals as goal

pub returns : goal.returns
returns g c =
    sends_object _ _ _ c.end_map.result c.in_ok-begin_map.ensures
    (λ e. sends_member _ _ c.in_ok-key.ensures c.in_ok-str.ensures
    (sends_member _ _ c.in_ok-key-2.ensures c.in_ok-str-2.ensures e))
    c.end_map.ensures
