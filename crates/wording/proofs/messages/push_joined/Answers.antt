use Rattle.std.proofs.Common.{string_bytes, rules}
use Rattle.wording.proofs.Begins.{begins_pushed}
use Rattle.wording.proofs.messages.push_joined.Goals as goal

pub loop-word-preserved : goal.loop-word-preserved
loop-word-preserved c =
    let s = string_bytes c.args.text.now in
    let t = string_bytes c.loop-word.text in
    let u = string_bytes c.push_str.new.self in
    record {
      begins = begins_pushed s u _ _ (begins_pushed s t _ u c.loop-word.invariant.begins c.in_ok-push_str.ensures.bytes)
          c.in_ok-push_str-2.ensures.bytes;
      is_text = search rules;
    }
