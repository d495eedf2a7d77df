use Rattle.tables.proofs.Std.{arith, ◌≡◌, ◌<◌, ◌+◌, ◌∷◌, ◌++◌, [], None, Option, ℕ, true, false, length, length-append, slice_index_or, ap, sym, subst, refl, inl, inr, ◌∙◌}
use Rattle.tables.proofs.Common.{Move, Moves, AClash, IsDecided, Nothing, Agreed, IsDecision, lookahead_at, rank, AreChosen, IsChosen, chosen, rank-lookahead_at, each_more}
use Rattle.tables.proofs.DecisionOfPrefix.{decided_all}
use Rattle.tables.proofs.decisions.moves_of.Goals as goal
use Rattle.tables.proofs.decisions.moves_of.Goals.{then-has+in-Nothing+in_ok-push-in-Nothing, then-has+in-Agreed+in_ok-push-in-Agreed, else-has+in_ok-push}

pub loop-column-preserved : goal.loop-column-preserved
loop-column-preserved c =
    let g = c.args.grammar.now.grammar in
    let items = c.as_slice-calling.result.now in
    let row = c.args.row.now in
    let i = c.loop-column.invariant in
    let at = c.loop-column.column in
    let old = c.loop-column.moves.items in
    let P : ℕ → Option Move → Type 0 = λ k m. IsChosen g items row (lookahead_at k) m in
    let more : (m : Option Move) → P at m → (k : ℕ) → k < length (old ++ m ∷ []) → P k (slice_index_or (old ++ m ∷ []) k None) =
    λ m h. each_more P old m None i.each (subst (λ n. P n m) (sym i.filled) h) in
    let longer : (m : Option Move) → length (old ++ m ∷ []) ≡ at + 1 = λ m. length-append old (m ∷ []) ∙ ap (λ n. n + 1) i.filled in
    elim c.if-has.branch [
      | then-has+in-Nothing+in_ok-push-in-Nothing w ↦
          let is : c.if-has.moves.items ≡ old ++ None ∷ [] = ap (λ v. v.items) w.moves-is ∙ w.in_ok-push-in-Nothing.ensures.items in
          let decided : IsDecision g items (lookahead_at at) Nothing = subst (λ d. IsDecision g items (lookahead_at at) d) w.in-Nothing.is
          (subst (λ l. IsDecision g items l w.decide.result) w.lookahead_at-look.ensures w.decide.ensures) in
          rw is (record { filled = longer None; each = more None (inl (decided, refl)) })
      | then-has+in-Agreed+in_ok-push-in-Agreed w ↦
          let m = w.move_at.result in
          let call = w.in-Agreed.call in
          let is : c.if-has.moves.items ≡ old ++ m ∷ [] = ap (λ v. v.items) w.moves-is ∙ w.in_ok-push-in-Agreed.ensures.items in
          let decided : IsDecision g items (lookahead_at at) (Agreed call) = subst (λ d. IsDecision g items (lookahead_at at) d) w.in-Agreed.is
          (subst (λ l. IsDecision g items l w.decide.result) w.lookahead_at-look.ensures w.decide.ensures) in
          let made : m ≡ chosen row (lookahead_at at) call = w.move_at.ensures ∙ ap (λ l. chosen row l call) w.lookahead_at-look.ensures in
          rw is (record { filled = longer m; each = more m (inr (call, decided, made)) })
      | else-has+in_ok-push w ↦
          let is : c.if-has.moves.items ≡ old ++ None ∷ [] = ap (λ v. v.items) w.moves-is ∙ w.in_ok-push.ensures.items in
          let column : rank (lookahead_at at) ≡ at = rank-lookahead_at at in
          let quiet : IsDecision g items (lookahead_at at) Nothing = λ j m has calls. let on = subst (λ n. slice_index_or c.in_ok-called.called n false ≡ true) column
          (c.in_ok-called.ensures.marked j (lookahead_at at) m has calls) in cc (on, c.has.ensures, w.if-has.false) in
          rw is (record { filled = longer None; each = more None (inl (quiet, refl)) })
    ]

pub returns : goal.returns
returns c =
    let g = c.args.grammar.now.grammar in
    let items = c.args.items.now in
    let row = c.args.row.now in
    let e = c.in_ok-callers.ensures in
    let made : AreChosen g c.as_slice-calling.result.now row c.loop-column.moves.items = record {
      filled = omega (arith, c.loop-column.invariant.filled, c.loop-column-test.false, c.loop-column.auto.column-end, c.lookaheads-column-end.ensures.count);
      each = c.loop-column.invariant.each;
    } in
    let decided = subst (λ y. AreChosen g y row c.loop-column.moves.items) c.as_slice-calling.ensures.value made in
    let all = decided_all g items c.in_ok-callers.callers.items e.within e.all row (Moves c.loop-column.moves.items) decided in
    subst (AreChosen g items row) (sym (c.in_ok-row.ensures ∙ c.deref.ensures.value)) all

pub returns-in-Conflict : goal.returns-in-Conflict
returns-in-Conflict c =
    let g = c.args.grammar.now.grammar in
    let row = c.args.row.now in
    let e = c.in_ok-callers.ensures in
    let look = c.lookahead_at-look.result in
    let clash = AClash (record { look = look; one = c.in-Conflict.one; two = c.in-Conflict.two }) in
    let decided = subst (λ d. IsDecision g c.as_slice-calling.result.now look d) c.in-Conflict.is c.decide.ensures in
    let of_callers = subst (λ y. IsDecided g y row clash) c.as_slice-calling.ensures.value decided in
    decided_all g c.args.items.now c.in_ok-callers.callers.items e.within e.all row clash of_callers
