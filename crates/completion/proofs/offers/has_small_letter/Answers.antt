use Rattle.completion.proofs.Std.{◌≡◌, ◌∙◌, ap, chars_of, is_lowercase, list_any, map-id, sym, YieldsList-end, YieldsList-from_chars}
use Rattle.completion.proofs.offers.has_small_letter.Goals as goal

pub returns : goal.returns
returns c =
    let all = YieldsList-end (YieldsList-from_chars c.args.word.now c.utf8.word cc) c.loop-character.yielded _ c.loop-character.yielded_by _ _ c.in-None.is c.next.ensures.steps in
    let whole : c.loop-character.yielded ≡ chars_of c.args.word.now = sym (map-id c.loop-character.yielded) ∙ all.0 in
    c.loop-character.invariant ∙ ap (list_any is_lowercase) whole
