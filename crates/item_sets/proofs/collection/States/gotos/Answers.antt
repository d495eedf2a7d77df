use Rattle.item_sets.proofs.Std.{◌≡◌, ◌<◌, ◌+◌, ◌∷◌, ◌++◌, [], length, length-append, slice_index_or, ap, sym, ◌∙◌, subst, arith, get_or_default}
use Rattle.item_sets.proofs.Common.{IsStep, IsOrdered, HasKernel, symbol_of}
use Rattle.item_sets.proofs.GotosGrow.{goes_on_trans, steps_more}
use Rattle.item_sets.proofs.collection.States.gotos.Goals as goal

pub goto-requires : goal.goto-requires
goto-requires c =
    let shape = c.args.grammar.now in
    let g = shape.grammar in
    let i = c.loop-kernel.invariant in
    let k = c.loop-kernel.kernel-index in
    let from = c.args.from in
    let kernels = c.in_ok-kernels.kernels.items in
    let same : c.deref-kernel-items.result.now ≡ kernels = c.deref-kernel-items.ensures.value in
    let below : k < length kernels = subst (λ x. k < length x) same c.loop-kernel-test.true in
    let kernel : c.items.result.now ≡ slice_index_or kernels k [] = c.items.ensures ∙ c.kernel-item.is ∙ ap (λ x. slice_index_or x k c.kernel-item.result) same
    ∙ get_or_default kernels k c.kernel-item.result [] below in
    let long : c.len.result ≡ k = (let n = c.len.ensures in let ok = c.loop-kernel.to.ok in let filled = i.filled in omega (arith, n, ok, filled)) in
    let at : c.symbol_at-symbol.result ≡ symbol_of g k = c.symbol_at-symbol.ensures ∙ ap (symbol_of g) long in
    let after_dot = c.in_ok-kernels.ensures.each k below in
    record {
      states = i.states;
      from = let l = i.goes_on.longer in let b = c.requires.from in omega (arith, l, b);
      ordered = subst (IsOrdered shape) (sym kernel) after_dot.ordered;
      leads = λ p h. subst (λ y. HasKernel g y (p ++ c.symbol_at-symbol.result ∷ [])) (sym kernel)
          (subst (λ s. HasKernel g (slice_index_or kernels k []) (p ++ s ∷ [])) (sym at)
          (after_dot.leads p (c.requires.items.set p (subst (λ y. HasKernel g y p) (i.goes_on.same from c.requires.from) h))));
    }

pub loop-kernel-preserved : goal.loop-kernel-preserved
loop-kernel-preserved c =
    let g = c.args.grammar.now.grammar in
    let i = c.loop-kernel.invariant in
    let row = c.loop-kernel.to.items in
    let from = c.args.from in
    let old = c.loop-kernel.self.kernels in
    let new = c.goto.new.self.kernels in
    let e = c.in_ok-goto.ensures in
    let to = c.in_ok-goto.field-0 in
    let here : from < length old = (let l = i.goes_on.longer in let b = c.requires.from in omega (arith, l, b)) in
    let row_is : c.push.new.self.items ≡ row ++ to ∷ [] = c.in_ok-push.ensures.items in
    let long : c.len.result ≡ length row = (let n = c.len.ensures in let ok = c.loop-kernel.to.ok in omega (arith, n, ok)) in
    let step : IsStep g new from (symbol_of g (length row)) to = subst (λ s. IsStep g new from s to) (c.symbol_at-symbol.ensures ∙ ap (symbol_of g) long) e.step in
    rw row_is (record {
      states = e.states;
      goes_on = goes_on_trans c.args.self.now.kernels old new i.goes_on e.goes_on;
      filled = length-append row (to ∷ []) ∙ ap (λ n. n + 1) i.filled;
      steps = steps_more g old new from row to e.goes_on here i.steps step;
    })

pub returns-clause-row : goal.returns-clause-row
returns-clause-row c =
    let i = c.loop-kernel.invariant in
    let filled = i.filled in
    let same = ap length c.deref-kernel-items.ensures.value in
    let count = c.in_ok-kernels.ensures.count in
    let past = c.loop-kernel-test.false in
    let within = c.loop-kernel.auto.kernel-index-end in
    record { filled = omega (arith, filled, same, count, past, within); steps = i.steps }
