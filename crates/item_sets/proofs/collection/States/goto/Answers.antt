use Rattle.item_sets.proofs.Std.{◌∷◌, ◌++◌, ◌<◌, [], length, sym, ◌∙◌, subst, ⊎_elim, arith, eqb-true, eqb-false, cases_lt}
use Rattle.item_sets.proofs.Common.{HasKernel}
use Rattle.item_sets.proofs.AddedKernels.{placed_goes_on, placed_states, no_item}
use Rattle.item_sets.proofs.collection.States.goto.Goals as goal

pub returns : goal.returns
returns c =
    let g = c.args.grammar.now in
    let old = c.args.self.now in
    let new = c.place.new.self in
    let kernel = c.args.kernel.now in
    let leads = c.requires.leads in
    let to = c.in_ok-to.ensures in
    let goes = placed_goes_on g old new kernel c.args.from c.args.symbol to.placed in
    let some = eqb-false (length kernel) 0 (sym c.is_empty.ensures ∙ c.if-is_empty.false) in
    let nonempty : 0 < length kernel = ⊎_elim (λ l. l) (λ m. absurd (some (omega (arith, m)))) (cases_lt 0 (length kernel)) in
    record {
      states = placed_states g old c.requires.states kernel c.args.from c.args.symbol c.requires.from c.requires.ordered leads nonempty new to.placed;
      goes_on = goes;
      step = (
        to.place.0,
        λ p k. subst (λ y. HasKernel g.grammar y (p ++ c.args.symbol ∷ [])) (sym to.place.1)
            (leads p (subst (λ y. HasKernel g.grammar y p) (goes.same c.args.from c.requires.from) k)),
      );
    }

pub returns-then-is_empty-clause-step : goal.returns-then-is_empty-clause-step
returns-then-is_empty-clause-step c = λ p k.
    let kernel = c.args.kernel.now in
    let none = eqb-true (length kernel) 0 (sym c.is_empty.ensures ∙ c.if-is_empty.true) in
    no_item c.args.grammar.now.grammar kernel (p ++ c.args.symbol ∷ []) (omega (arith, none)) (c.requires.leads p k)
