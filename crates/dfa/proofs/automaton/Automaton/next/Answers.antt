use Rattle.dfa.proofs.Std.{◌≡◌, ◌<◌, ◌+◌, length, arith, ap, sym, ◌∙◌, subst, slice_index_or, nat_le, get_or_default, prefix_len-le-length}
use Rattle.dfa.proofs.Common.{part, follower, numbered, IsState, table_of}
use Rattle.dfa.proofs.Numbers.{entry_is, entry_within, numbered_some}
use Rattle.dfa.proofs.automaton.Automaton.next.Goals.{After-part, After-from}
use Rattle.dfa.proofs.automaton.Automaton.next.Goals as goal

-- the state and the part of the character are those of an entry of the table
entry : (c : After-part) → let a = c.self.inside in
    IsState (table_of a.starts.items a.next.items a.accepts.items) c.args.state × (c.part.result ≡ part a.starts.items c.args.c) × (c.args.state.row + c.part.result < length a.next.items)
entry c =
    let a = c.self.inside in
    let p : c.part.result ≡ part a.starts.items c.args.c = c.part.ensures ∙ ap (λ t. part t.starts c.args.c) (sym c.self.view_is) in
    let at = subst (λ t. IsState t c.args.state) (sym c.self.view_is) c.requires in
    (at, p, entry_within a.starts.items a.next.items a.accepts.items c.self.invariant.table c.args.state c.part.result c.args.c at p)

-- what is read there
read : (c : After-from) → c.args.state.row + c.part.result < length c.self.inside.next.items → slice_index_or c.self.inside.next.items (c.args.state.row + c.part.result) 0 ≡ c.from.result
read c within = sym (c.from.ensures ∙ c.index-next.ensures ∙ get_or_default c.self.inside.next.items (c.args.state.row + c.part.result) c.index-next.result.now 0 within)

pub overflow_add-state : goal.overflow_add-state
overflow_add-state c = omega (arith, (entry (goal.at.overflow_add-state c).After-part).2, c.self.inside.next.ok.0)

pub index-next-requires : goal.index-next-requires
index-next-requires c = omega (arith, (entry (goal.at.index-next-requires c).After-part).2, c.self.inside.next.ok.0)

pub returns-else-next-eq0-clause-is : goal.returns-else-next-eq0-clause-is
returns-else-next-eq0-clause-is c =
    let a = c.self.inside in
    let there = goal.at.returns-else-next-eq0-clause-is c in
    let (at, p, within) = entry there.After-part in
    sym (entry_is a.starts.items a.next.items a.accepts.items c.args.state c.part.result c.args.c at p ∙ ap numbered (read there.After-from within)
    ∙ numbered_some c.from.result (omega (arith, c.if-next-eq0.false, c.from.ensures)))
    ∙ ap (λ t. follower t c.args.state.number c.args.c) c.self.view_is

pub returns-else-next-eq0-clause-inside : goal.returns-else-next-eq0-clause-inside
returns-else-next-eq0-clause-inside c =
    let a = c.self.inside in
    let there = goal.at.returns-else-next-eq0-clause-inside c in
    let (at, p, within) = entry there.After-part in
    let inside = c.self.invariant.table.inside c.args.state.number (part a.starts.items c.args.c) at.inside (omega (arith, prefix_len-le-length (λ x. nat_le x c.args.c) a.starts.items)) in
    subst (λ t. c.from.result < length t.accepts) c.self.view_is
    (subst (λ n. n < length a.accepts.items) ((λ j. slice_index_or a.next.items (sym at.row j + sym p j) 0) ∙ read there.After-from within) inside)
