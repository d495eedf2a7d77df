use Rattle.parser.proofs.Std.{◌≡◌, ◌+◌, ◌-◌, List, [], ◌∷◌, ◌++◌, length, length-take, take, drop, get_or, sym, ap, ◌∙◌, subst, rules, arith, length-append, Option, append_cancel_right}
use Rattle.parser.proofs.Common.{Kind, Symbol, Nonterminal, Grammar, Tree, HaveRoots, length-roots, Reduces, goto_there, Handle, handle, reduces_roots, AreBelow, Node, IsStateOf, plain_of, HasStates, HasMade}
use Rattle.parser.proofs.Reductions.{parts, reduced, states_after, state_under, plain-length, below-take, below-drop}
use Rattle.parser.proofs.machine.Machine.reduce.Goals.{After-len, In_ok-push}
use Rattle.parser.proofs.machine.Machine.reduce.Goals as goal

-- the right side's trees stand at the end of the stack, which has as many and others under them
ended : (c : After-len) → let stack = plain_of c.args.store.now c.args.self.now.stack.items in
    Handle c.args.tables.now.grammar stack c.requires.called.1 c.production-left.result.0 c.production-left.ensures.0
    × (c.len.result - c.production-left.result.1 + length c.production-left.ensures.0 ≡ length stack) × (c.len.result ≡ length stack)
ended c =
    let gr = c.args.tables.now.grammar in
    let items = c.args.self.now.stack.items in
    let called = c.requires.called in
    let sized = c.production-left.ensures in
    let k = handle gr (plain_of c.args.store.now items) called.1 called.0 c.args.production c.production-left.result.0 sized.0 called.2 called.3 sized.1 in
    let n : c.len.result ≡ length items = search rules in
    let long = n ∙ sym (plain-length c.args.store.now items) in
    (k, omega (arith, long, sized.2, ap length k.stack_is, length-append k.under k.kids, length-roots gr k.kids sized.0 k.kids_roots), long)

-- a reduction leaves its left side after what stands under the right one
left_after : (g : Grammar) (stack new : List Tree) (look : Option Kind) (r : Reduces g stack look new) (d : List Symbol) → r.symbols ≡ d ++ r.right → HaveRoots g new (d ++ (Nonterminal r.left ∷ []))
left_after g stack new look r d is =
    let rd = reduces_roots g stack new look r in
    subst (λ l. HaveRoots g new (l ++ (Nonterminal r.left ∷ []))) (append_cancel_right rd.d d r.right (sym rd.symbols_are ∙ is)) rd.roots

-- the node that is made is over as many trees as the right side has symbols
made : (c : In_ok-push) → (c.len.result - c.production-left.result.1 + length c.production-left.ensures.0 ≡ length (plain_of c.args.store.now c.args.self.now.stack.items))
    → (m : HasMade c.args.store.now c.args.self.now.stack.items c.args.production c.args.number c.branch-store.new.self c.push.new.self.stack.items)
    × (length m.kids ≡ length c.production-left.ensures.0)
made c at =
    let items = c.args.self.now.stack.items in
    let m = c.len.result - c.production-left.result.1 in
    let pushed : c.push.new.self.stack.items ≡ c.truncate.new.self.items ++ (Node c.in_ok-id.id ∷ []) = search rules in
    let after = pushed ∙ ap (λ l. l ++ (Node c.in_ok-id.id ∷ [])) c.truncate.ensures.items in
    let kids = take (length c.deref.result.now - m) (drop m c.deref.result.now) in
    let is = parts m items c.deref.result.now c.deref.ensures.value in (
      record { under = take m items; kids = kids; id = c.in_ok-id.id; stack_is = is; stack_is' = after; grown = c.in_ok-id.ensures.ok },
      omega (arith, at, plain-length c.args.store.now items, ap length is, length-append (take m items) kids, length-take m items),
    )

pub overflow_sub-below : goal.overflow_sub-below
overflow_sub-below c = let e = ended (goal.at.overflow_sub-below c).After-len in omega (arith, e.1, e.2, c.production-left.ensures.2)

pub branch-store-requires : goal.branch-store-requires
branch-store-requires c =
    let e : c.deref.result.now ≡ c.args.self.now.stack.items = c.deref.ensures.value in
    below-take _ _ _ (below-drop _ _ _ (subst (AreBelow (length c.args.store.now)) (sym e) c.requires.below))

pub unreachable-requires : goal.unreachable-requires
unreachable-requires c =
    let t = c.args.tables.now in
    let states = c.args.self.now.states.items in
    let called = c.requires.called in
    let sized = c.production-left.ensures in
    let left = c.production-left.result.0 in
    let (k, at, long) = ended (goal.at.unreachable-requires c).After-len in
    let m = c.len.result - c.production-left.result.1 in
    let there = state_under t (plain_of c.args.store.now c.args.self.now.stack.items) states c.requires.states called.1 called.2 left sized.0 k m at in
    let state : c.state.result ≡ get_or (take (m + 1) states) (length (take (m + 1) states) - 1) 0 = c.state.ensures ∙ ap (λ l. get_or l (length l - 1) 0) c.truncate-2.ensures.items in
    c.in_default.ensures k.d (subst (IsStateOf t k.d) (sym state) there) (goto_there t.grammar c.args.production left sized.0 k.d k.w sized.1 k.reaches)

pub returns-clause-reduced : goal.returns-clause-reduced
returns-clause-reduced c look symbols roots called =
    let at = goal.at.returns-clause-reduced c in
    let sized = c.production-left.ensures in
    let node = made at.In_ok-push (ended at.After-len).1 in
    reduced c.args.tables.now.grammar c.args.store.now c.branch-store.new.self c.args.self.now.stack.items c.push.new.self.stack.items c.args.production c.args.number node.0
    c.requires.below look symbols roots called c.production-left.result.0 sized.0 sized.1 node.1

pub returns-clause-states : goal.returns-clause-states
returns-clause-states c =
    let here = goal.at.returns-clause-states c in
    let t = c.args.tables.now in
    let cells = c.args.store.now in
    let items = c.args.self.now.stack.items in
    let states = c.args.self.now.states.items in
    let stack = plain_of cells items in
    let called = c.requires.called in
    let sized = c.production-left.ensures in
    let left = c.production-left.result.0 in
    let (k, at, long) = ended here.After-len in
    let m = c.len.result - c.production-left.result.1 in
    let node = made here.In_ok-push at in
    let new = plain_of c.branch-store.new.self c.push.new.self.stack.items in
    let r = reduced t.grammar cells c.branch-store.new.self items c.push.new.self.stack.items c.args.production c.args.number node.0
    c.requires.below called.0 called.1 called.2 called.3 left sized.0 sized.1 node.1 in
    let roots = left_after t.grammar stack new called.0 r k.d k.symbols_are in
    let there = state_under t stack states c.requires.states called.1 called.2 left sized.0 k m at in
    let state : c.state.result ≡ get_or (take (m + 1) states) (length (take (m + 1) states) - 1) 0 = c.state.ensures ∙ ap (λ l. get_or l (length l - 1) 0) c.truncate-2.ensures.items in
    let goes = (c.in-Some.ensures k.d (subst (IsStateOf t k.d) (sym state) there)).1 in
    let after : c.push.new.self.states.items ≡ take (m + 1) states ++ (c.in-Some.next ∷ []) = search rules in
    subst (HasStates t new) (sym after) (states_after t stack states c.requires.states called.1 called.2 left sized.0 k m at new c.in-Some.next roots goes)
