use Rattle.std.proofs.Common.{ℕ, ap, ◌≡◌, ◌∙◌, ◌∷◌, ◌++◌, [], sym, subst}
use Rattle.views.proofs.LinesOfTokens.{IsLined, lined_more, lined_skipped, lined_all}
use Rattle.views.proofs.foldable.lines_of.Goals as goal

pub loop-token-preserved : goal.loop-token-preserved
loop-token-preserved c skips marked =
    let next : c.loop-token.token-iterator ≡ c.in-Some.token.now ∷ c.next.new.self = c.in-Some.ensures.steps in
    let line : ℕ × ℕ = (c.position-first.result.line, c.position.result.line) in
    let items : c.push.new.self.items ≡ c.loop-token.lines.items ++ line ∷ [] = c.in_ok-push.ensures.items in
    let offset = rw c.length.ensures at c.advance.ensures.offset in
    let before = subst (λ ts. IsLined skips c.args.text.now c.args.tokens.now.items c.loop-token.lines.items c.loop-token.places ts) next (c.loop-token.invariant skips marked) in
    subst (λ ls. IsLined skips c.args.text.now c.args.tokens.now.items ls c.advance.new.self c.next.new.self) (sym items)
    (lined_more skips c.args.text.now c.args.tokens.now.items c.loop-token.lines.items c.loop-token.places c.advance.new.self c.in-Some.token.now c.next.new.self
    before c.advance.ensures.unit c.advance.ensures.text offset (sym c.is_skipped.ensures ∙ c.if-is_skipped.false) line
    (ap (λ p. p.line) c.position-first.ensures) (ap (λ p. p.line) c.position.ensures))

pub loop-token-preserved-then-is_skipped : goal.loop-token-preserved-then-is_skipped
loop-token-preserved-then-is_skipped c skips marked =
    let next : c.loop-token.token-iterator ≡ c.in-Some.token.now ∷ c.next.new.self = c.in-Some.ensures.steps in
    let offset = rw c.length.ensures at c.advance.ensures.offset in
    let before = subst (λ ts. IsLined skips c.args.text.now c.args.tokens.now.items c.loop-token.lines.items c.loop-token.places ts) next (c.loop-token.invariant skips marked) in
    lined_skipped skips c.args.text.now c.args.tokens.now.items c.loop-token.lines.items c.loop-token.places c.advance.new.self c.in-Some.token.now c.next.new.self
    before c.advance.ensures.unit c.advance.ensures.text offset (sym c.is_skipped.ensures ∙ c.if-is_skipped.true)

pub returns : goal.returns
returns c skips marked =
    let none : c.loop-token.token-iterator ≡ [] = c.in-None.ensures.steps.0 in
    lined_all skips c.args.text.now c.args.tokens.now.items c.loop-token.lines.items c.loop-token.places
    (subst (λ ts. IsLined skips c.args.text.now c.args.tokens.now.items c.loop-token.lines.items c.loop-token.places ts) none (c.loop-token.invariant skips marked))
