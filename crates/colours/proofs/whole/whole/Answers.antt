use Rattle.colours.proofs.Std.{◌≡◌, ◌∙◌, ◌∷◌, [], List, ap, subst}
use Rattle.colours.proofs.Common.{colour_of, Token}
use Rattle.colours.proofs.Walks.{AreColoured, ascends, coloured_all, coloured_more, coloured_whole, last_before}
use Rattle.colours.proofs.whole.whole.Goals as goal

pub push_token-requires-clause-last : goal.push_token-requires-clause-last
push_token-requires-clause-last c =
    let next : c.loop-token.token-iterator ≡ c.in-Some.token.now ∷ c.next.new.self = c.in-Some.ensures.steps in
    let offset = rw c.length.ensures at c.in_ok-advance.ensures.offset in
    let before = subst (λ (ts : List Token). AreColoured c.args.unit c.args.text.now c.args.palette.now c.args.tokens.now.items c.loop-token.encoder.numbers.items c.loop-token.encoder.last
    c.loop-token.steps ts) next c.loop-token.invariant.walk in
    last_before c.args.unit c.args.text.now c.args.palette.now c.args.tokens.now.items c.loop-token.encoder.numbers.items c.loop-token.encoder.last c.loop-token.steps c.advance.new.self
    c.in-Some.token.now c.next.new.self before c.advance.ensures.unit c.advance.ensures.text offset c.position-start.result c.position-start.ensures

pub push_token-requires-clause-ordered : goal.push_token-requires-clause-ordered
push_token-requires-clause-ordered c =
    let next : c.loop-token.token-iterator ≡ c.in-Some.token.now ∷ c.next.new.self = c.in-Some.ensures.steps in
    let offset = rw c.length.ensures at c.in_ok-advance.ensures.offset in
    let before = subst (λ (ts : List Token). AreColoured c.args.unit c.args.text.now c.args.palette.now c.args.tokens.now.items c.loop-token.encoder.numbers.items c.loop-token.encoder.last
    c.loop-token.steps ts) next c.loop-token.invariant.walk in
    ascends c.args.unit c.args.text.now c.args.palette.now c.args.tokens.now.items c.loop-token.encoder.numbers.items c.loop-token.encoder.last c.loop-token.steps c.advance.new.self
    c.in-Some.token.now c.next.new.self before c.advance.ensures.unit c.advance.ensures.text offset c.position-start.result c.position-end.result c.position-start.ensures c.position-end.ensures

pub loop-token-preserved : goal.loop-token-preserved
loop-token-preserved c =
    let next : c.loop-token.token-iterator ≡ c.in-Some.token.now ∷ c.next.new.self = c.in-Some.ensures.steps in
    let offset = rw c.length.ensures at c.in_ok-advance.ensures.offset in
    let before = subst (λ (ts : List Token). AreColoured c.args.unit c.args.text.now c.args.palette.now c.args.tokens.now.items c.loop-token.encoder.numbers.items c.loop-token.encoder.last
    c.loop-token.steps ts) next c.loop-token.invariant.walk in
    record {
      walk = coloured_more c.args.unit c.args.text.now c.args.palette.now c.args.tokens.now.items c.loop-token.encoder.numbers.items c.loop-token.encoder.last c.loop-token.steps c.advance.new.self
          c.in-Some.token.now c.next.new.self before c.advance.ensures.unit c.advance.ensures.text offset
          c.push_token.new.self.numbers.items c.push_token.new.self.last c.colour_of.result c.position-start.result c.position-end.result c.position-start.ensures
          c.position-end.ensures (c.colour_of.ensures ∙ ap (colour_of c.args.palette.now) c.kind.ensures)
          (c.in_ok-push_token.ensures.encoded before.parts before.encoded) c.in_ok-push_token.ensures.last;
      ends = c.in_ok-advance.ensures.last;
    }

pub returns-clause-decoded : goal.returns-clause-decoded
returns-clause-decoded c =
    let none : c.loop-token.token-iterator ≡ [] = c.in-None.ensures.steps.0 in
    coloured_all c.args.unit c.args.text.now c.args.palette.now c.args.tokens.now.items c.loop-token.encoder.numbers.items c.loop-token.encoder.last c.loop-token.steps (subst (λ (ts : List
    Token). AreColoured c.args.unit c.args.text.now c.args.palette.now c.args.tokens.now.items c.loop-token.encoder.numbers.items c.loop-token.encoder.last c.loop-token.steps ts) none
    c.loop-token.invariant.walk)

pub returns-clause-whole : goal.returns-clause-whole
returns-clause-whole c =
    let none : c.loop-token.token-iterator ≡ [] = c.in-None.ensures.steps.0 in
    coloured_whole c.args.unit c.args.text.now c.args.palette.now c.args.tokens.now.items c.loop-token.encoder.numbers.items c.loop-token.encoder.last c.loop-token.steps (subst (λ (ts :
    List Token). AreColoured c.args.unit c.args.text.now c.args.palette.now c.args.tokens.now.items c.loop-token.encoder.numbers.items c.loop-token.encoder.last c.loop-token.steps ts) none
    c.loop-token.invariant.walk)
