use Rattle.text.proofs.Std.{◌≡◌, ◌∷◌, ◌++◌, [], ap, sym, ◌∙◌, append_assoc, chars, YieldsList-from_chars, YieldsList-end, map-id}
use Rattle.text.proofs.document.add_characters.Goals as goal

pub loop-c-preserved : goal.loop-c-preserved
loop-c-preserved c =
    c.in_ok-push.ensures.items
    ∙ ap (λ l. l ++ c.in-Some.c ∷ []) c.loop-c.invariant
    ∙ append_assoc c.args.characters.now.items c.loop-c.yielded (c.in-Some.c ∷ [])

pub returns : goal.returns
returns c =
    let all = YieldsList-end (YieldsList-from_chars c.args.text.now c.utf8.text cc) c.loop-c.yielded _ c.loop-c.yielded_by _ _ c.in-None.is c.next.ensures.steps in
    let whole : c.loop-c.yielded ≡ chars c.args.text.now = sym (map-id c.loop-c.yielded) ∙ all.0 in
    c.loop-c.invariant ∙ ap (λ l. c.args.characters.now.items ++ l) whole
