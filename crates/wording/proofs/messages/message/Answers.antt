use Rattle.std.proofs.Common.{codes, string_bytes}
use Rattle.wording.proofs.Begins.{begins_equal, begins_pushed, begins_through}
use Rattle.wording.proofs.messages.message.Goals as goal

pub returns : goal.returns
returns c =
    let s = codes "unexpected " in
    let t = string_bytes c.in_ok-text.text in
    let u = string_bytes c.push_str.new.self in
    let v = string_bytes c.push_str-2.new.self in
    begins_through s v _
    (begins_pushed s u _ v (begins_pushed s t _ u (begins_equal s t c.in_ok-text.ensures.ok) c.in_ok-push_str.ensures.bytes)
    c.in_ok-push_str-2.ensures.bytes)
    c.in_ok-push_listed.ensures
