use Rattle.item_sets.proofs.Std.{rules, ◌≡◌, ◌<◌, ◌∷◌, ◌++◌, [], Some, None, length, slice_index_or, slice_set, length-set, ap, sym, subst, ◌∙◌, arith, IfSome, get_or_default}
use Rattle.item_sets.proofs.Common.{first, Item, IsKnown, after_dot, step, ShiftsUpTo, number, symbol_of}
use Rattle.item_sets.proofs.KernelsAfter.{kernels_more, kernels_same, shifts_none, kernel_after}
use Rattle.item_sets.proofs.goto.kernels_after.Goals as goal
use Rattle.item_sets.proofs.goto.kernels_after.Goals.{in-Some+in_ok-add, in_default}

pub number_of-requires : goal.number_of-requires
number_of-requires c = record { known = subst (λ o. IfSome o (IsKnown c.args.grammar.now)) c.in-Some.is c.next.ensures.known }

pub loop-item-init : goal.loop-item-init
loop-item-init c =
    let g = c.args.grammar.now.grammar in
    record {
      count = search rules;
      each = λ k l. subst (ShiftsUpTo g c.args.items.now 0 (symbol_of g k)) (sym (c.in_ok-kernels.ensures.empty k)) (shifts_none g c.args.items.now (symbol_of g k));
    }

pub loop-item-preserved : goal.loop-item-preserved
loop-item-preserved c =
    let g = c.args.grammar.now in
    let items = c.args.items.now in
    let at = c.loop-item.item-index in
    let old = c.loop-item.kernels.items in
    let i = c.loop-item.invariant in
    let zero : Item = record { production = None; at = 0; look = None } in
    let item = slice_index_or items at zero in
    let below : at < length items = search rules in
    elim c.match-next.branch [
      | in-Some+in_ok-add w ↦
          let s = w.in-Some.symbol in
          let stands : first (after_dot g.grammar item) ≡ Some s = sym c.next.ensures.next ∙ w.in-Some.is in
          let known : IsKnown g s = subst (λ o. IfSome o (IsKnown g)) w.in-Some.is c.next.ensures.known in
          let n = number g.grammar s in
          let count = i.count in
          let in_row = w.number_of.ensures.below in
          let there : w.number_of.result < length old = omega (arith, count, in_row) in
          let within : n < length old = subst (λ m. m < length old) w.number_of.ensures.number there in
          let row : w.add.new.self ≡ slice_index_or old n [] ++ step item ∷ [] = w.in_ok-add.ensures ∙ ap (λ r. r ++ step item ∷ [])
          (w.index_mut-kernel.ensures.value ∙ get_or_default old w.number_of.result w.index_mut-kernel.result.now [] there ∙ ap (λ m. slice_index_or old m []) w.number_of.ensures.number) in
          let new : c.match-next.kernels.items ≡ slice_set old n (slice_index_or old n [] ++ step item ∷ []) =
          ap (λ v. v.items) w.kernels-is ∙ (λ k. slice_set old (w.number_of.ensures.number k) (row k)) in
          rw new (record {
            count = length-set old n (slice_index_or old n [] ++ step item ∷ []) ∙ count;
            each = kernels_more g items at zero below old i.each c.requires.rising s known stands within;
          })
      | in_default w ↦ rw w.kernels-is (record { count = i.count; each = kernels_same g items at zero below old i.each (λ s e. w.in_default.not-Some s (c.next.ensures.next ∙ e)) })
    ]

pub returns-clause-each : goal.returns-clause-each
returns-clause-each c = λ k l.
    let g = c.args.grammar.now in
    let kernels = c.loop-item.kernels.items in
    kernel_after g c.args.items.now (slice_index_or kernels k []) c.loop-item.item-index (symbol_of g.grammar k) c.requires.known c.loop-item-test.false (c.loop-item.invariant.each k l)
