use Rattle.colours.proofs.Std.{◌+◌, ◌≡◌, ◌≤◌, ◌∙◌, All, ap, arith, drop, drop-drop, length, length-drop, subst, sym, take}
use Rattle.colours.proofs.Stepping.{plain_each}
use Rattle.colours.specs.Steps.{IsPlain}
use Rattle.colours.proofs.steps.Steps.new.Goals as goal

pub invariant_of-result : goal.invariant_of-result
invariant_of-result c =
    let t = c.args.text.now in
    let look = c.look-plain in
    let ahead : c.chars_from-ahead.result ≡ drop c.args.offset t = c.chars_from-ahead.ensures in
    let long : c.args.offset + look.result.0 ≤ length t = omega (arith, look.ensures.within, ap length ahead, length-drop c.args.offset t, c.requires) in
    record {
      within = long;
      few = omega (arith, c.len-length.ensures.count, c.len-length.ensures.few);
      is = c.position-position.ensures;
      plains = plain_each t c.args.offset look.result.0 (subst (λ xs. All IsPlain (take look.result.0 xs)) ahead look.ensures.plain) long;
      rest = sym (drop-drop look.result.0 c.args.offset t) ∙ ap (drop look.result.0) (sym ahead) ∙ look.ensures.behind;
      known = λ k l. absurd (omega (arith, l, ap length c.new.ensures.items));
    }
