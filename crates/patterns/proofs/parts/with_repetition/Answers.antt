use Rattle.patterns.proofs.Std.{refl, ap, arith}
use Rattle.patterns.proofs.Common.{star, plus, optional, one_atom, writing, is_sound}
use Rattle.patterns.proofs.Repeats.{signed, no_sign}
use Rattle.patterns.proofs.parts.with_repetition.Goals as goal

pub returns-in-Some-clause-repeated : goal.returns-in-Some-clause-repeated
returns-in-Some-clause-repeated c =
    let a = c.in-Some in
    signed a.field-0-0 42 a.rest.now a.ensures c.skip_blanks.ensures (ap is_sound c.in_ok-star.ensures.1) (λ d us s. rw c.in_ok-star.ensures.1 (star d us _ _ refl refl s)) (λ d n. refl)

pub returns-in-Some-strip-clause-repeated : goal.returns-in-Some-strip-clause-repeated
returns-in-Some-strip-clause-repeated c =
    let a = c.in-Some-strip in
    signed a.field-0-0 43 a.rest.now a.ensures c.skip_blanks-in-Some-strip.ensures (ap is_sound c.in_ok-plus.ensures.1) (λ d us s. rw c.in_ok-plus.ensures.1 (plus d us _ _ refl refl s)) (λ d n. refl)

pub returns-in-Some-strip-2-clause-repeated : goal.returns-in-Some-strip-2-clause-repeated
returns-in-Some-strip-2-clause-repeated c =
    let a = c.in-Some-strip-2 in
    signed a.field-0-0 63 a.rest.now a.ensures c.skip_blanks-in-Some-strip-2.ensures (ap is_sound c.in_ok-optional.ensures.1)
    (λ d us s. rw c.in_ok-optional.ensures.1 (optional d us _ _ refl refl s)) (λ d n. refl)

pub returns-clause-repeated : goal.returns-clause-repeated
returns-clause-repeated c = record {
  spelled = λ d us s. (us, refl, one_atom d us s);
  sound = λ s. s;
  no_longer = omega arith;
  goes_on = λ d n. no_sign n d (writing c.args.words.now) c.requires.no_blank c.in_default.ensures c.in_default-strip.ensures c.in_default-strip-2.ensures;
}
