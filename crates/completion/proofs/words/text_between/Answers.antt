use Rattle.completion.proofs.Std.{◌++◌, ◌≡◌, ◌∙◌, ◌∷◌, ap, drop, encode_utf8, encode_utf8_all, slice_range, sym}
use Rattle.completion.proofs.Steps.{encode-push, slice_more, tail_here}
use Rattle.completion.proofs.words.text_between.Goals as goal

pub loop-preserved : goal.loop-preserved
loop-preserved c =
    let t = c.args.text.now in
    let at = c.loop.counter in
    let char = c.in-Some.character in
    let rest = c.next.new.self in
    let here : drop at t ≡ char ∷ rest = sym c.loop.invariant.ahead ∙ c.in-Some.ensures.steps in
    record {
      ahead = tail_here t at char rest here;
      string = c.in_ok-push.ensures.bytes ∙ ap (λ l. l ++ encode_utf8 char) c.loop.invariant.string ∙ sym (encode-push (slice_range t c.args.from at) char)
          ∙ ap encode_utf8_all (sym (slice_more t c.args.from at char rest c.loop.auto.counter here));
    }
