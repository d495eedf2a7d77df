use Rattle.tables.proofs.Std.{◌≡◌, ◌≤◌, ℕ, List, [], Option, Some, None, slice_index_or, sym, ap, ◌∙◌, subst, arith, rules, get_or_default}
use Rattle.tables.proofs.Common.{Symbol, Token, rank, Move, Shift, Sets, seen, IsStateOf, IsAction, move_at}
use Rattle.tables.proofs.RowsOfPrefix.{right, far_move, shift_state}
use Rattle.tables.proofs.tables.Tables.action.Goals as goal

-- a move that was read in the row of a state is the one in the tables
move_read : {t : Sets} {prefix : List Symbol} {s : ℕ} → IsStateOf t prefix s → (look : Option ℕ) {row : List (Option Move)} {move : Option Move} → row ≡ slice_index_or t.moves s row
    → move ≡ slice_index_or row (rank look) None → move ≡ move_at t s look
move_read {t = t} {s = s} h look {row} there read = read ∙ ap (λ r. slice_index_or r (rank look) None) (there ∙ get_or_default t.moves s row [] h.below)

pub returns-in-None-clause-is : goal.returns-in-None-clause-is
returns-in-None-clause-is c = rw (← c.self.view_is, c.in-None.is) (λ prefix h. rw (move_read h None c.index-moves.ensures c.at.ensures)
    ((right _ _ c.self.invariant prefix c.args.state h).moves None))

pub returns-then-a-rules : goal.returns-then-a-rules
returns-then-a-rules c =
    let inside = c.self.inside in
    let t = seen inside.productions.grammar inside.gotos.items inside.moves.items in
    let s = c.args.state in
    let a = c.in-Rule.a in
    let look : c.args.look ≡ Some (Token a) = c.in-Some.is ∙ ap (λ k. Some k) c.in-Rule.is in
    let there = c.index-moves.ensures in
    let read = c.at-then-a-rules.ensures in
    record {
      is = rw (← c.self.view_is, look) (λ prefix h. rw (move_read h (Some a) there read) ((right _ _ c.self.invariant prefix s h).moves (Some a)));
      shifts = rw (← c.self.view_is) (λ prefix b to h next shift.
          let same : a ≡ b = cc (look, next) in
          shift_state _ _ c.self.invariant prefix s h b to (subst (λ n. move_at t s (Some n) ≡ Some (Shift to)) same (sym (move_read h (Some a) there read) ∙ shift)));
    }

pub returns-else-a-rules-clause-is : goal.returns-else-a-rules-clause-is
returns-else-a-rules-clause-is c =
    let s = c.args.state in
    let a = c.in-Rule.a in
    let g = c.self.inside.productions.grammar in
    let look : c.args.look ≡ Some (Token a) = c.in-Some.is ∙ ap (λ k. Some k) c.in-Rule.is in
    let far : g.rules ≤ a = (let e = c.rules.ensures in let l = c.if-a-rules.false in omega (arith, e, l)) in
    rw (← c.self.view_is, look) (λ prefix h. subst (IsAction g prefix (Some (Token a))) (far_move _ _ c.self.invariant prefix s h a far) ((right _ _ c.self.invariant prefix s h).moves (Some a)))

pub returns-in-Invalid-clause-is : goal.returns-in-Invalid-clause-is
returns-in-Invalid-clause-is c = search rules
