use Rattle.states.proofs.Std.{◌++◌, ◌+◌, ◌-◌, ◌≡◌, ◌∙◌, ◌∷◌, [], Some, ap, arith, get_or, length, refl, subst, sym, take, List}
use Rattle.states.proofs.Common.{goto_there, AreStatesOn, Handle, HasItem, HasMove, HasProduction, IsStateOf, Kind, Nonterminal, Reduce}
use Rattle.states.proofs.Machines.{place, right_within, state_below, states_reduced}
use Rattle.states.proofs.pile.Pile.reduce.Goals.{After-production-symbol, After-state}
use Rattle.states.proofs.pile.Pile.reduce.Goals as goal

pub put-requires : goal.put-requires
put-requires c =
    let reached = c.state.ensures.reached in
    let view = c.self-2.view_is in
    let goes = (c.in-Some-goto.ensures reached.0 (subst (λ v. IsStateOf v.tables reached.0 c.state.result) (sym view) reached.1)).1 in
    let symbols = reached.0 ++ (Nonterminal c.production-symbol.result.0 ∷ []) in
    (symbols, subst (λ v. IsStateOf v.tables symbols c.in-Some-goto.next) view goes)

made : (c : After-production-symbol) → HasProduction c.args.self.now.tables.grammar c.args.production c.production-symbol.result.0 c.production-symbol.ensures.0
made c = subst (λ v. HasProduction v.tables.grammar c.args.production c.production-symbol.result.0 c.production-symbol.ensures.0) c.self.view_is c.production-symbol.ensures.1

module _ (c : After-production-symbol) (x : List Kind) (k : Kind) (on : AreStatesOn c.args.self.now.tables x k c.args.self.now.states)
    (called : HasMove c.args.self.now.tables.grammar on.has.symbols (Some k) (Reduce c.args.production)) where
  -- so many states are left under the right side
  left_under : length c.args.self.now.states - c.production-symbol.result.1 + length c.production-symbol.ensures.0 ≡ length c.args.self.now.states
  left_under =
      omega (
        arith,
        c.production-symbol.ensures.2,
        right_within c.args.self.now.tables x k c.args.self.now.states on c.args.production c.production-symbol.result.0 c.production-symbol.ensures.0 called (made c),
      )

  -- its place on the stack
  abbrev under : Handle c.args.self.now.tables.grammar on.stack on.has.symbols c.production-symbol.result.0 c.production-symbol.ensures.0
  under =
      place c.args.self.now.tables x k c.args.self.now.states on c.args.production c.production-symbol.result.0 c.production-symbol.ensures.0 called (made c)
      (length c.args.self.now.states - c.production-symbol.result.1) left_under

-- the tables are those from before
same : (c : After-state) → c.self-2.inside.tables.now ≡ c.args.self.now.tables
same c = ap (λ v. v.tables) c.self-2.view_is ∙ c.take.ensures.tables

-- the state under the right side
stands : (c : After-state) (x : List Kind) (k : Kind) (on : AreStatesOn c.args.self.now.tables x k c.args.self.now.states)
    (called : HasMove c.args.self.now.tables.grammar on.has.symbols (Some k) (Reduce c.args.production))
    → IsStateOf c.self-2.inside.tables.now (under (goal.at.After-state c).After-production-symbol x k on called).d c.state.result
stands c x k on called =
    let before = (goal.at.After-state c).After-production-symbol in
    let t = c.args.self.now.tables in
    let states = c.args.self.now.states in
    let m = length states - c.production-symbol.result.1 in
    let h = under before x k on called in
    let there = state_below t x k states on c.args.production c.production-symbol.result.0 c.production-symbol.ensures.0 called (made before) m (left_under before x k on called) in
    let state : c.state.result ≡ get_or (take m states) (length (take m states) - 1) 0 = c.state.ensures.is ∙ ap (λ l. get_or l (length l - 1) 0) c.in-Some.ensures.states in
    subst (λ u. IsStateOf u h.d c.state.result) (sym (same c)) (subst (IsStateOf t h.d) (sym state) there)

pub returns-in_default-clause-reduced : goal.returns-in_default-clause-reduced
returns-in_default-clause-reduced c x k on called =
    let before = (goal.at.returns-in_default-clause-reduced c).After-production-symbol in
    absurd (omega (
      arith,
      c.in_default.ensures.states,
      c.production-symbol.ensures.2,
      right_within c.args.self.now.tables x k c.args.self.now.states on c.args.production c.production-symbol.result.0 c.production-symbol.ensures.0 called (made before),
    ))

pub returns-in_default-goto-clause-reduced : goal.returns-in_default-goto-clause-reduced
returns-in_default-goto-clause-reduced c x k on called =
    let at = goal.at.returns-in_default-goto-clause-reduced c in
    let h = under at.After-production-symbol x k on called in
    let left = c.production-symbol.result.0 in
    let right = c.production-symbol.ensures.0 in
    absurd (c.in_default-goto.ensures h.d (stands at.After-state x k on called)
    (subst (λ u. HasItem u.grammar (h.d ++ (Nonterminal left ∷ []))) (sym (same at.After-state))
    (goto_there c.args.self.now.tables.grammar c.args.production left right h.d h.w (made at.After-production-symbol) h.reaches)))

pub returns-clause-reduced : goal.returns-clause-reduced
returns-clause-reduced c x k on called =
    let at = goal.at.returns-clause-reduced c in
    let t = c.args.self.now.tables in
    let states = c.args.self.now.states in
    let left = c.production-symbol.result.0 in
    let right = c.production-symbol.ensures.0 in
    let m = length states - c.production-symbol.result.1 in
    let h = under at.After-production-symbol x k on called in
    let goes = (c.in-Some-goto.ensures h.d (stands at.After-state x k on called)).1 in
    let next = subst (λ u. IsStateOf u (h.d ++ (Nonterminal left ∷ [])) c.in-Some-goto.next) (same at.After-state) goes in
    let after : c.put.new.self.states ≡ take m states ++ (c.in-Some-goto.next ∷ []) = c.in_ok-put.ensures.states ∙ ap (λ l. l ++ (c.in-Some-goto.next ∷ [])) c.in-Some.ensures.states in (
      refl,
      subst (AreStatesOn t x k) (sym after)
          (states_reduced t x k states on c.args.production left right called (made at.After-production-symbol) m (left_under at.After-production-symbol x k on called) c.in-Some-goto.next next),
    )
