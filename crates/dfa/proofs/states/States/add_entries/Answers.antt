use Rattle.dfa.proofs.Std.{◌≡◌, ℕ, ◌<◌, List, [], length, slice_index_or, refl, sym, ap, ◌∙◌, subst, arith, get_or_default}
use Rattle.dfa.proofs.Common.{marks_of, Expression, Rises, AreEntries, AreStates, IsNumber, IsReached, Placed, kept, members}
use Rattle.dfa.proofs.StatesGrow.{placed_states, placed_grows, grows_none, grows_more, entries_none, entries_more}
use Rattle.dfa.proofs.states.States.add_entries.Goals.{After-number}
use Rattle.dfa.proofs.states.States.add_entries.Goals as goal

-- the set is that of these holders
set : (c : After-number) → c.in_ok-set.set.items ≡ kept (marks_of c.args.followers.now) (slice_index_or c.args.parts.now c.loop-holders.holders-index [])
set c = c.in_ok-set.ensures
    ∙ ap (kept (marks_of c.args.followers.now)) (c.holders-item.is ∙ get_or_default c.args.parts.now c.loop-holders.holders-index c.holders-item.result [] c.loop-holders-test.true)

-- with it, the sets are still those of states
stay : (c : After-number) → Placed (members c.loop-holders.self.sets.keys) (members c.number.new.sets.keys) c.in_ok-set.set.items → (rules : List Expression)
    → AreStates rules (members c.args.self.now.sets.keys)
    → ((k : ℕ) → k < length c.args.parts.now → IsReached rules (kept (marks_of c.args.followers.now) (slice_index_or c.args.parts.now k []))) → AreStates rules (members c.number.new.sets.keys)
stay c placed rules s r = placed_states rules (members c.loop-holders.self.sets.keys) (members c.number.new.sets.keys) c.in_ok-set.set.items (c.loop-holders.invariant.states rules s r)
    (subst (IsReached rules) (sym (set c)) (r c.loop-holders.holders-index c.loop-holders-test.true)) placed

pub kept-requires-clause-holders : goal.kept-requires-clause-holders
kept-requires-clause-holders c =
    let parts = c.args.parts.now in
    let i = c.loop-holders.holders-index in
    let at : c.holders-item.result ≡ slice_index_or parts i [] = c.holders-item.is ∙ get_or_default parts i c.holders-item.result [] c.loop-holders-test.true in
    subst (Rises 0) (sym at) (c.requires.holders i [] c.loop-holders-test.true)

pub kept-requires-clause-within : goal.kept-requires-clause-within
kept-requires-clause-within c =
    let parts = c.args.parts.now in
    let i = c.loop-holders.holders-index in
    let at : c.holders-item.result ≡ slice_index_or parts i [] = c.holders-item.is ∙ get_or_default parts i c.holders-item.result [] c.loop-holders-test.true in
    subst (λ (x : List ℕ). (k : ℕ) → k < length x → slice_index_or x k 0 < length c.args.marks.now) (sym at) (λ k l. c.requires.within i k c.loop-holders-test.true l)

pub returns-in_err-to-clause-states : goal.returns-in_err-to-clause-states
returns-in_err-to-clause-states c = stay (goal.at.returns-in_err-to-clause-states c).After-number c.in_err-to.ensures.placed

pub returns-in_err-push-clause-states : goal.returns-in_err-push-clause-states
returns-in_err-push-clause-states c = stay (goal.at.returns-in_err-push-clause-states c).After-number c.in_ok-to.ensures.placed

pub loop-holders-preserved : goal.loop-holders-preserved
loop-holders-preserved c =
    let at = (goal.at.loop-holders-preserved c).After-number in
    let old = c.loop-holders.invariant in
    let sets = members c.loop-holders.self.sets.keys in
    let new = members c.number.new.sets.keys in
    let g = placed_grows sets new c.in_ok-set.set.items c.in_ok-to.ensures.placed in
    record {
      accepts = old.accepts;
      states = stay at c.in_ok-to.ensures.placed;
      grows = grows_more (members c.args.self.now.sets.keys) sets new old.grows g;
      bound = λ le. c.in_ok-to.ensures.bound (old.bound le);
      entries = entries_more c.args.self.now.next.items c.loop-holders.self.next.items c.push.new.self.items sets new (marks_of c.args.followers.now) c.args.parts.now
          c.loop-holders.holders-index c.in_ok-to.to old.entries g c.in_ok-push.ensures.items (subst (IsNumber new c.in_ok-to.to) (set at) c.in_ok-to.ensures.number.0);
    }

pub loop-holders-init : goal.loop-holders-init
loop-holders-init c =
    let sets = members c.args.self.now.sets.keys in
    record {
      accepts = refl;
      states = λ rules s r. s;
      grows = grows_none sets;
      bound = λ le. le;
      entries = entries_none c.args.self.now.next.items sets (marks_of c.args.followers.now) c.args.parts.now;
    }

pub returns-clause-entries : goal.returns-clause-entries
returns-clause-entries c =
    let parts = c.args.parts.now in
    let all : c.loop-holders.holders-index ≡ length parts = omega arith in
    subst (AreEntries c.args.self.now.next.items c.loop-holders.self.next.items (members c.loop-holders.self.sets.keys) (marks_of c.args.followers.now) parts) all c.loop-holders.invariant.entries

pub returns-clause-states : goal.returns-clause-states
returns-clause-states c = c.loop-holders.invariant.states

pub returns-in_err-set-clause-states : goal.returns-in_err-set-clause-states
returns-in_err-set-clause-states c = c.loop-holders.invariant.states

pub returns-in_err-set-clause-grows : goal.returns-in_err-set-clause-grows
returns-in_err-set-clause-grows c = c.loop-holders.invariant.grows

pub returns-in_err-to-clause-grows : goal.returns-in_err-to-clause-grows
returns-in_err-to-clause-grows c =
    grows_more (members c.args.self.now.sets.keys) _ _ c.loop-holders.invariant.grows (placed_grows _ _ c.in_ok-set.set.items c.in_err-to.ensures.placed)

pub returns-in_err-push-clause-grows : goal.returns-in_err-push-clause-grows
returns-in_err-push-clause-grows c =
    grows_more (members c.args.self.now.sets.keys) _ _ c.loop-holders.invariant.grows (placed_grows _ _ c.in_ok-set.set.items c.in_ok-to.ensures.placed)
