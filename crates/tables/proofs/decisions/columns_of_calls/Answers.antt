use Rattle.tables.proofs.Std.{◌≡◌, ◌<◌, ◌+◌, None, Option, ℕ, true, length, slice_index_or, sym, subst, ◌∙◌, arith, IfSome, length-set}
use Rattle.tables.proofs.Common.{CallsFor, kind_of, Item, rank, item_of, LrMove as Move}
use Rattle.tables.proofs.LookaheadMarks.{mark_more, mark_none}
use Rattle.tables.proofs.decisions.columns_of_calls.Goals as goal
use Rattle.tables.proofs.decisions.columns_of_calls.Goals.{in-Some, in_default}

pub loop-item-preserved : goal.loop-item-preserved
loop-item-preserved c =
    let g = c.args.grammar.now.grammar in
    let items = c.args.items.now in
    let at = c.loop-item.item-index in
    let zero : Item = record { production = None; at = 0; look = None } in
    let Asks : Item → Option ℕ → Type 0 = λ i look. (m : Move) × CallsFor (item_of g i) (kind_of look) m in
    let place = c.column_of_call.ensures.column in
    let long = c.loop-item.invariant.long in
    elim c.match-column_of_call.branch [
      | in-Some w ↦
          let p = w.in-Some.column in
          let in_row : p < g.rules + 1 = subst (λ o. IfSome o (λ k. k < g.rules + 1)) w.in-Some.is c.column_of_call.ensures.within in
          let below : p < length c.loop-item.marks = omega (arith, long, in_row) in
          let only : (look : Option ℕ) → Asks (slice_index_or items at zero) look → rank look ≡ p = λ look a. cc (place look a.0 a.1, w.in-Some.is) in
          rw (w.marks-is, w.mark.ensures) (record {
            long = length-set c.loop-item.marks p true ∙ long;
            marked = mark_more rank Asks items at zero c.loop-item-test.true c.loop-item.marks c.loop-item.invariant.marked p below only;
          })
      | in_default w ↦ rw w.marks-is (record {
        long = long;
        marked = mark_none rank Asks items at zero c.loop-item-test.true c.loop-item.marks c.loop-item.invariant.marked (λ look a. w.in_default.not-Some (rank look) (place look a.0 a.1));
      })
    ]

pub returns-clause-marked : goal.returns-clause-marked
returns-clause-marked c = λ i look m has calls.
    let end = c.loop-item-test.false in
    c.loop-item.invariant.marked has.0 i look (let l = has.1 in omega (arith, l, end)) (m, subst (λ x. CallsFor (item_of c.args.grammar.now.grammar x) (kind_of look) m) (sym has.2) calls)
