use Rattle.colours.proofs.Std.{◌≡◌, ◌∙◌, ◌∷◌, [], List, ap, arith, drop, refl, subst}
use Rattle.colours.proofs.Common.{colour_of, Token}
use Rattle.colours.proofs.WindowWalks.{AreWithin, ascends, last_before, none_below, within_all, within_more, within_start, within_whole}
use Rattle.colours.proofs.ranges.Window.colours.Goals as goal

pub new-steps-requires : goal.new-steps-requires
new-steps-requires c = c.first-first.ensures.inside

pub loop-token-init : goal.loop-token-init
loop-token-init c = record {
  walk = within_start c.args.unit c.args.text.now c.args.palette.now c.args.self.from c.args.self.to c.args.tokens.now.items c.into_iter-token-iterator.result
      c.new-encoder.result.numbers.items c.new-encoder.result.last c.first-first.result.0 c.new-steps.result c.new-encoder.ensures.none
      c.new-encoder.ensures.last c.new-steps.ensures.unit c.new-steps.ensures.text (c.new-steps.ensures.offset ∙ c.first-first.ensures.offset)
      (omega (arith, c.new-steps.ensures.offset, c.first-first.ensures.inside)) (omega (arith, c.new-steps.ensures.offset, c.first-first.ensures.above))
      (c.into_iter-token-iterator.ensures.into_iter_gives ∙ c.iter_from-token-items.ensures ∙ ap (drop c.first-first.result.0) c.items.ensures);
  ends = c.new-steps.ensures.last;
}

pub returns-then-start-self-clause-decoded : goal.returns-then-start-self-clause-decoded
returns-then-start-self-clause-decoded c =
    within_all c.args.unit c.args.text.now c.args.palette.now c.args.self.from c.args.self.to c.args.tokens.now.items c.loop-token.encoder.numbers.items c.loop-token.encoder.last
    c.loop-token.steps c.loop-token.token-iterator c.loop-token.invariant.walk
    (none_below c.args.unit c.args.text.now c.args.palette.now c.args.self.from c.args.self.to c.args.tokens.now.items c.loop-token.encoder.numbers.items c.loop-token.encoder.last
    c.loop-token.steps c.loop-token.token-iterator
    c.loop-token.invariant.walk c.position-start.result c.position-start.ensures c.if-start-self.true)

pub returns-then-start-self-clause-whole : goal.returns-then-start-self-clause-whole
returns-then-start-self-clause-whole c =
    within_whole c.args.unit c.args.text.now c.args.palette.now c.args.self.from c.args.self.to c.args.tokens.now.items c.loop-token.encoder.numbers.items
    c.loop-token.encoder.last c.loop-token.steps c.loop-token.token-iterator c.loop-token.invariant.walk
    (none_below c.args.unit c.args.text.now c.args.palette.now c.args.self.from c.args.self.to c.args.tokens.now.items c.loop-token.encoder.numbers.items c.loop-token.encoder.last
    c.loop-token.steps c.loop-token.token-iterator
    c.loop-token.invariant.walk c.position-start.result c.position-start.ensures c.if-start-self.true)

pub push-requires-clause-last : goal.push-requires-clause-last
push-requires-clause-last c =
    let next : c.loop-token.token-iterator ≡ c.in-Some.token.now ∷ c.next.new.self = c.in-Some.ensures.steps in
    let offset = rw c.length.ensures at c.in_ok-advance.ensures.offset in
    let before = subst (λ (ts : List Token). AreWithin c.args.unit c.args.text.now c.args.palette.now c.args.self.from c.args.self.to c.args.tokens.now.items
    c.loop-token.encoder.numbers.items c.loop-token.encoder.last c.loop-token.steps ts) next c.loop-token.invariant.walk in
    last_before c.args.unit c.args.text.now c.args.palette.now c.args.self.from c.args.self.to c.args.tokens.now.items c.loop-token.encoder.numbers.items c.loop-token.encoder.last c.loop-token.steps
    c.advance.new.self c.in-Some.token.now c.next.new.self before c.advance.ensures.unit c.advance.ensures.text offset c.position-start.result c.position-start.ensures

pub push-requires-clause-ordered : goal.push-requires-clause-ordered
push-requires-clause-ordered c =
    let next : c.loop-token.token-iterator ≡ c.in-Some.token.now ∷ c.next.new.self = c.in-Some.ensures.steps in
    let offset = rw c.length.ensures at c.in_ok-advance.ensures.offset in
    let before = subst (λ (ts : List Token). AreWithin c.args.unit c.args.text.now c.args.palette.now c.args.self.from c.args.self.to c.args.tokens.now.items
    c.loop-token.encoder.numbers.items c.loop-token.encoder.last c.loop-token.steps ts) next c.loop-token.invariant.walk in
    ascends c.args.unit c.args.text.now c.args.palette.now c.args.self.from c.args.self.to c.args.tokens.now.items c.loop-token.encoder.numbers.items c.loop-token.encoder.last c.loop-token.steps
    c.advance.new.self c.in-Some.token.now c.next.new.self before c.advance.ensures.unit c.advance.ensures.text offset c.position-start.result c.position-end.result
    c.position-start.ensures c.position-end.ensures

pub loop-token-preserved : goal.loop-token-preserved
loop-token-preserved c =
    let next : c.loop-token.token-iterator ≡ c.in-Some.token.now ∷ c.next.new.self = c.in-Some.ensures.steps in
    let offset = rw c.length.ensures at c.in_ok-advance.ensures.offset in
    let before = subst (λ (ts : List Token). AreWithin c.args.unit c.args.text.now c.args.palette.now c.args.self.from c.args.self.to c.args.tokens.now.items
    c.loop-token.encoder.numbers.items c.loop-token.encoder.last c.loop-token.steps ts) next c.loop-token.invariant.walk in
    record {
      walk = within_more c.args.unit c.args.text.now c.args.palette.now c.args.self.from c.args.self.to c.args.tokens.now.items c.loop-token.encoder.numbers.items
          c.loop-token.encoder.last c.loop-token.steps
          c.advance.new.self c.in-Some.token.now c.next.new.self before c.advance.ensures.unit c.advance.ensures.text offset
          c.push.new.encoder.numbers.items c.push.new.encoder.last c.colour_of-colour.result c.position-start.result c.position-end.result
          c.position-start.ensures c.position-end.ensures (c.colour_of-colour.ensures ∙ ap (colour_of c.args.palette.now) c.kind.ensures)
          (c.in_ok-push.ensures.encoded before.parts before.encoded) c.in_ok-push.ensures.last;
      ends = c.in_ok-advance.ensures.last;
    }

pub returns-clause-decoded : goal.returns-clause-decoded
returns-clause-decoded c =
    let none : c.loop-token.token-iterator ≡ [] = c.in-None.ensures.steps.0 in
    within_all c.args.unit c.args.text.now c.args.palette.now c.args.self.from c.args.self.to c.args.tokens.now.items c.loop-token.encoder.numbers.items c.loop-token.encoder.last
    c.loop-token.steps [] (subst (λ (ts : List Token). AreWithin c.args.unit c.args.text.now c.args.palette.now c.args.self.from c.args.self.to c.args.tokens.now.items
    c.loop-token.encoder.numbers.items c.loop-token.encoder.last c.loop-token.steps ts) none c.loop-token.invariant.walk) refl

pub returns-clause-whole : goal.returns-clause-whole
returns-clause-whole c =
    let none : c.loop-token.token-iterator ≡ [] = c.in-None.ensures.steps.0 in
    within_whole c.args.unit c.args.text.now c.args.palette.now c.args.self.from c.args.self.to c.args.tokens.now.items c.loop-token.encoder.numbers.items
    c.loop-token.encoder.last c.loop-token.steps [] (subst (λ (ts : List Token). AreWithin c.args.unit c.args.text.now c.args.palette.now c.args.self.from c.args.self.to
    c.args.tokens.now.items c.loop-token.encoder.numbers.items c.loop-token.encoder.last c.loop-token.steps ts) none c.loop-token.invariant.walk) refl
