use Rattle.item_sets.proofs.Std.{◌≡◌, ◌∷◌, ◌++◌, [], length, reverse, ap, sym, ◌∙◌, subst, arith, append_assoc, get_or_default, reverse-append}
use Rattle.item_sets.proofs.Common.{Terminal, Origin, kernel_at, origin_at, HasKernel}
use Rattle.item_sets.proofs.FirstKernel.{start_item, start_kernel}
use Rattle.item_sets.proofs.collection.States.prefix.Goals as goal

pub loop-at-preserved : goal.loop-at-preserved
loop-at-preserved c =
    let g = c.args.grammar.now.grammar in
    let t = c.args.self.now in
    let at = c.loop-at.at in
    let i = c.loop-at.invariant in
    let led = c.requires.states.led at c.loop-at-test.true i.below in
    let earlier = led.earlier in
    let below = i.below in
    let none : Origin = record { from = 0; symbol = Terminal 0 } in
    let seen : c.self.inside.origins.items ≡ t.origins = ap (λ x. x.origins) c.self.view_is in
    let long = ap length seen in
    let longer = c.requires.states.long in
    let o : c.index-origin.result.now ≡ origin_at t.origins at = c.index-origin.ensures ∙ get_or_default c.self.inside.origins.items at c.index-origin.result.now none
    (omega (arith, below, long, longer)) ∙ ap (λ x. origin_at x at) seen in
    let s = (origin_at t.origins at).symbol in
    let symbols = c.loop-at.symbols.items in
    let from = ap (λ (x : Origin). x.from) c.origin.view_is in
    let symbol = ap (λ (x : Origin). x.symbol) c.origin.view_is in
    rw (c.in_ok-push.ensures.items, from, symbol, o) (record {
      below = omega (arith, earlier, below);
      leads = λ p k. subst (λ y. HasKernel g (kernel_at t.kernels c.args.state) (p ++ y)) (sym (reverse-append symbols (s ∷ [])))
          (subst (HasKernel g (kernel_at t.kernels c.args.state)) (append_assoc p (s ∷ []) (reverse symbols)) (i.leads (p ++ s ∷ []) (led.leads p k)));
    })

pub returns : goal.returns
returns c =
    let g = c.args.grammar.now.grammar in
    let t = c.args.self.now in
    let zero = c.loop-at-test.false in
    let start : kernel_at t.kernels c.loop-at.at ≡ start_item ∷ [] = ap (kernel_at t.kernels) (omega (arith, zero)) ∙ c.requires.states.start in
    rw c.reverse.ensures.items (c.loop-at.invariant.leads [] (subst (λ y. HasKernel g y []) (sym start) (start_kernel g)))
