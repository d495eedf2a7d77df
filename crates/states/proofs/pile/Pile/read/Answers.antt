use Rattle.states.proofs.Std.{◌≡◌, ◌++◌, ◌∷◌, ◌∙◌, ◌-◌, [], Some, ap, false, get_or, length, inl, inr, refl, subst, sym, true, List}
use Rattle.states.proofs.Common.{plain_move, Accept, AreStatesAfter, AreStatesOn, HasMove, IsAccepted, IsStateOf, IsViable, Kind, Move, Reduce, Shift, Symbol, Terminal, TokenRule, top_stands}
use Rattle.states.proofs.Machines.{begins, goes_on, no_accept, states_on, states_shifted, stuck}
use Rattle.states.proofs.Moves.{shifted}
use Rattle.states.specs.Stacks.{IsReached}
use Rattle.states.proofs.pile.Pile.read.Goals.{After-action, In-None, In-Some-Accept, In-Some-Reduce, In_ok-put-in-Some-Shift, In_ok-reduce-in-Some-Reduce}
use Rattle.states.proofs.pile.Pile.read.Goals as goal

-- the tables are those from before
same : (c : After-action) → c.self.inside.tables.now ≡ c.args.self.now.tables
same c = ap (λ v. v.tables) c.self.view_is ∙ c.loop.invariant.tables

-- the state that the machine is in
stands : (c : After-action) (x : List Kind) (h : AreStatesAfter c.args.self.now.tables x c.args.self.now.states)
    → IsStateOf c.self.inside.tables.now (c.loop.invariant.on x h).has.symbols c.state.result
stands c x h =
    let t = c.args.self.now.tables in
    let on = c.loop.invariant.on x h in
    subst (λ u. IsStateOf u on.has.symbols c.state.result) (sym (same c))
    (subst (IsStateOf t on.has.symbols) (sym c.state.ensures.is) (top_stands t on.stack c.loop.self.states on.has))

-- it is the one before any move, where none is made yet
stands_first : (c : After-action) (x : List Kind) (h : AreStatesAfter c.args.self.now.tables x c.args.self.now.states) → c.loop.self.states ≡ c.args.self.now.states
    → IsStateOf c.self.inside.tables.now h.has.symbols c.state.result
stands_first c x h unmoved =
    let old = c.args.self.now.states in
    let top : c.state.result ≡ get_or old (length old - 1) 0 = c.state.ensures.is ∙ ap (λ l. get_or l (length l - 1) 0) unmoved in
    subst (λ u. IsStateOf u h.has.symbols c.state.result) (sym (same c)) (subst (IsStateOf c.args.self.now.tables h.has.symbols) (sym top) (top_stands c.args.self.now.tables h.stack old h.has))

accepted : (c : After-action) → IsAccepted c.args.self.now.tables.grammar
accepted c = subst (λ u. IsAccepted u.grammar) (same c) c.self.invariant.0

pub loop-init : goal.loop-init
loop-init c = record {
  tables = refl;
  on = λ x h. states_on c.args.self.now.tables x c.args.kind c.args.self.now.states h;
  stays = λ x h. inl refl;
}

pub put-requires : goal.put-requires
put-requires c =
    let t = c.self.inside.tables.now in
    let reached : IsReached t c.state.result = subst (λ v. IsReached v.tables c.state.result) (sym c.self.view_is) c.state.ensures.reached in
    subst (λ v. IsReached v.tables c.in-Some-Shift.next) c.self.view_is
    (shifted t c.state.result c.in-Some-Shift.next (Some c.args.kind) c.in-Some-Shift.field-0 reached c.in-Some-Shift.ensures.is c.in-Some-Shift.ensures.shifts
    c.in-Some-Shift.field-0-is)

-- a reduction that the tables call for after some symbols
called_for : (c : In-Some-Reduce) (symbols : List Symbol) → IsStateOf c.self.inside.tables.now symbols c.state.result
    → HasMove c.args.self.now.tables.grammar symbols (Some c.args.kind) (Reduce c.in-Some-Reduce.production)
called_for c symbols there =
    let k = c.args.kind in
    subst (λ u. HasMove u.grammar symbols (Some k) (Reduce c.in-Some-Reduce.production)) (same (goal.at.In-Some-Reduce c).After-action)
    (subst (λ m. HasMove c.self.inside.tables.now.grammar symbols (Some k) (plain_move m)) c.in-Some-Reduce.field-0-is (c.in-Some-Reduce.ensures.is symbols there))

-- the states after it
reduced : (c : In_ok-reduce-in-Some-Reduce) (x : List Kind) → AreStatesAfter c.args.self.now.tables x c.args.self.now.states
    → (c.in_ok-reduce-in-Some-Reduce.field-0 ≡ true) × AreStatesOn c.args.self.now.tables x c.args.kind c.reduce.new.self.states
reduced c x h =
    let k = c.args.kind in
    let on = c.loop.invariant.on x h in
    let at = goal.at.In_ok-reduce-in-Some-Reduce c in
    let move = called_for at.In-Some-Reduce on.has.symbols (stands at.After-action x h) in
    subst (λ u. (on : AreStatesOn u x k c.loop.self.states) → HasMove u.grammar on.has.symbols (Some k) (Reduce c.in-Some-Reduce.production)
    → (c.in_ok-reduce-in-Some-Reduce.field-0 ≡ true) × AreStatesOn u x k c.reduce.new.self.states) c.loop.invariant.tables
    (c.in_ok-reduce-in-Some-Reduce.ensures.reduced x k) on move

pub loop-preserved : goal.loop-preserved
loop-preserved c =
    let at = goal.at.loop-preserved c in
    record {
      tables = c.in_ok-reduce-in-Some-Reduce.ensures.tables ∙ c.loop.invariant.tables;
      on = λ x h. (reduced at.In_ok-reduce-in-Some-Reduce x h).1;
      stays = λ x h. inr (elim (c.loop.invariant.stays x h) [
        | inl unmoved ↦ goes_on c.args.self.now.tables x c.args.kind c.args.self.now.states h (accepted at.After-action) (Reduce c.in-Some-Reduce.production)
            (called_for at.In-Some-Reduce h.has.symbols (stands_first at.After-action x h unmoved))
        | inr viable ↦ viable
      ]);
    }

-- a reduction that is called for is made
is_made : (c : In_ok-reduce-in-Some-Reduce) (x : List Kind) → AreStatesAfter c.args.self.now.tables x c.args.self.now.states → c.in_ok-reduce-in-Some-Reduce.field-0 ≡ false → ⊥
is_made c x h e = let f : true ≡ false = sym (reduced c x h).0 ∙ e in cc f

pub returns-then-not-branch-clause-goes_on : goal.returns-then-not-branch-clause-goes_on
returns-then-not-branch-clause-goes_on c x h _ =
    is_made (goal.at.returns-then-not-branch-clause-goes_on c).In_ok-reduce-in-Some-Reduce x h c.if-not-branch.true

pub returns-then-not-branch-clause-stays : goal.returns-then-not-branch-clause-stays
returns-then-not-branch-clause-stays c x h _ =
    absurd (is_made (goal.at.returns-then-not-branch-clause-stays c).In_ok-reduce-in-Some-Reduce x h c.if-not-branch.true)

-- the kind is on the stack
after_shift : (c : In_ok-put-in-Some-Shift) (x : List Kind) → AreStatesAfter c.args.self.now.tables x c.args.self.now.states
    → AreStatesAfter c.args.self.now.tables (x ++ (c.args.kind ∷ [])) c.put.new.self.states
after_shift c x h =
    let t = c.args.self.now.tables in
    let k = c.args.kind in
    let on = c.loop.invariant.on x h in
    let symbols = on.has.symbols in
    let at = (goal.at.In_ok-put-in-Some-Shift c).After-action in
    let tables = same at in
    let there = stands at x h in
    let called : HasMove t.grammar symbols (Some k) Shift =
    subst (λ u. HasMove u.grammar symbols (Some k) Shift) tables
    (subst (λ m. HasMove c.self.inside.tables.now.grammar symbols (Some k) (plain_move m)) c.in-Some-Shift.field-0-is (c.in-Some-Shift.ensures.is symbols there)) in
    let rule : k ≡ TokenRule called.calls.0 = let e : Some k ≡ Some (TokenRule called.calls.0) = called.calls.3 in cc e in
    let goes = subst (λ u. IsStateOf u (symbols ++ (Terminal called.calls.0 ∷ [])) c.in-Some-Shift.next) tables
    (c.in-Some-Shift.ensures.shifts symbols called.calls.0 c.in-Some-Shift.next there (ap Some rule) (ap Some c.in-Some-Shift.field-0-is)) in
    subst (AreStatesAfter t (x ++ (k ∷ []))) (sym c.in_ok-put-in-Some-Shift.ensures.states)
    (states_shifted t x k c.loop.self.states on called.calls.0 c.in-Some-Shift.next rule called goes)

pub returns-in-Some-Shift-clause-after : goal.returns-in-Some-Shift-clause-after
returns-in-Some-Shift-clause-after c x h _ = after_shift (goal.at.returns-in-Some-Shift-clause-after c).In_ok-put-in-Some-Shift x h

pub returns-in-Some-Shift-clause-goes_on : goal.returns-in-Some-Shift-clause-goes_on
returns-in-Some-Shift-clause-goes_on c x h =
    let at = goal.at.returns-in-Some-Shift-clause-goes_on c in
    begins c.args.self.now.tables (x ++ (c.args.kind ∷ [])) c.put.new.self.states (accepted at.After-action) (after_shift at.In_ok-put-in-Some-Shift x h)

-- nothing is accepted here
is_not_accepted : (c : In-Some-Accept) (x : List Kind) → AreStatesAfter c.args.self.now.tables x c.args.self.now.states → ⊥
is_not_accepted c x h =
    let k = c.args.kind in
    let on = c.loop.invariant.on x h in
    let at = (goal.at.In-Some-Accept c).After-action in
    no_accept c.args.self.now.tables x k c.loop.self.states on
    (subst (λ u. HasMove u.grammar on.has.symbols (Some k) Accept) (same at)
    (subst (λ m. HasMove c.self.inside.tables.now.grammar on.has.symbols (Some k) (plain_move m)) c.in-Some-Accept.field-0-is (c.in-Some-Accept.ensures.is on.has.symbols (stands at x h))))

pub returns-in-Some-Accept-clause-goes_on : goal.returns-in-Some-Accept-clause-goes_on
returns-in-Some-Accept-clause-goes_on c x h _ = is_not_accepted (goal.at.returns-in-Some-Accept-clause-goes_on c).In-Some-Accept x h

pub returns-in-Some-Accept-clause-stays : goal.returns-in-Some-Accept-clause-stays
returns-in-Some-Accept-clause-stays c x h _ = absurd (is_not_accepted (goal.at.returns-in-Some-Accept-clause-stays c).In-Some-Accept x h)

-- no sentence goes on with the kind
is_stuck : (c : In-None) (x : List Kind) → AreStatesAfter c.args.self.now.tables x c.args.self.now.states → ¬ IsViable c.args.self.now.tables.grammar (x ++ (c.args.kind ∷ []))
is_stuck c x h =
    let k = c.args.kind in
    let on = c.loop.invariant.on x h in
    let at = (goal.at.In-None c).After-action in
    stuck c.args.self.now.tables x k c.loop.self.states on (accepted at)
    (subst (λ u. (move : Move) → HasMove u.grammar on.has.symbols (Some k) move → ⊥) (same at) (c.in-None.ensures.is on.has.symbols (stands at x h)))

pub returns-in-None-clause-goes_on : goal.returns-in-None-clause-goes_on
returns-in-None-clause-goes_on c = is_stuck (goal.at.returns-in-None-clause-goes_on c).In-None

pub returns-in-None-clause-stays : goal.returns-in-None-clause-stays
returns-in-None-clause-stays c x h _ = elim (c.loop.invariant.stays x h) [
  | inl unmoved ↦ unmoved
  | inr viable ↦ absurd (is_stuck (goal.at.returns-in-None-clause-stays c).In-None x h viable)
]
