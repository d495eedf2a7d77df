use Rattle.parser.proofs.Std.{◌≡◌, ◌+◌, ℕ, List, length, slice_get, Some, refl, sym, ap, ◌∙◌, subst, arith, slice_get_within}
use Rattle.parser.proofs.Common.{HasMove, Shift, Reduce, Accept, Kind, Tree, yield, plain_tree, Stamped, Rule as Token}
use Rattle.parser.proofs.Common.{Cell, all_trees, tree, Child, Node, Reduces, Sets, IsStateOf, Offers, IsOffer, FirstInput, OffersTree, OffersNext, input_of, IsInput, plain_of, HasStates, IsStoppedAt, verdict_of, CameFrom, ComeFrom, IsEdge, SoFar, AreOlder, plain_move as plain}
use Rattle.parser.proofs.WhereBranchesComeFrom.{came_reduced, came_shifted, came_taken, come_older, come_on, prefix_came, prefix_from, skipped_came, skipped_left}
use Rattle.parser.proofs.Inputs.{taken}
use Rattle.parser.proofs.Moves.{Reached, top_stands}
use Rattle.parser.proofs.Reusing.{counted}
use Rattle.parser.proofs.Running.{after_first, reached, reduced_on, shifted_on, skipped_on, taken_on}
use Rattle.parser.proofs.Stamps.{prefix_stays}
use Rattle.parser.proofs.StopDecides.{IsStuck, at_fault, at_end, at_tree}
use Rattle.parser.proofs.machine.Machine.run.Goals.{In_ok-edge, After-state, then-self-count, else-self-count}
use Rattle.parser.proofs.machine.Machine.run.Goals as goal

-- the left edge of the rest of the input, over the kinds of the whole run
edge_on : (g : _) (c : In_ok-edge g) → IsEdge c.args.tables.now c.moves.store (plain_of c.moves.store c.moves.self.stack.items)
    c.args.kinds.now c.moves.self.read c.moves.input c.edge.new.input c.in_ok-edge.edge
edge_on g c = subst (λ kinds. IsEdge c.args.tables.now c.moves.store (plain_of c.moves.store c.moves.self.stack.items) kinds c.moves.self.read
    c.moves.input c.edge.new.input c.in_ok-edge.edge) c.moves.invariant.same c.in_ok-edge.ensures.edge

-- what the rest of the input is and offers, once its left edge was tried
record IsTried (t : Sets) (kinds : List Kind) (cells : List Cell) (stack : List Tree) (read number : ℕ) (whole : List Stamped) (rest now : List Child) (first : FirstInput) : Type 0 where
  input : IsInput t.grammar cells now kinds read
  offers : Offers t.grammar stack (input_of cells now kinds read) (input_of cells rest kinds read)
  offer : (f : FirstInput) → first ≡ f → IsOffer t cells stack kinds read now f
  came : ComeFrom whole read (all_trees cells now)
  older : AreOlder number (all_trees cells now)

tried : (g : _) (c : In_ok-edge g) → IsTried c.args.tables.now c.args.kinds.now c.moves.store (plain_of c.moves.store c.moves.self.stack.items) c.moves.self.read c.args.number
    (all_trees c.args.store.now c.args.input) c.moves.input c.edge.new.input c.in_ok-edge.edge.offer
tried g c =
    let t = c.args.tables.now in
    let cells = c.moves.store in
    let read = c.moves.self.read in
    let trees = plain_of cells c.moves.self.stack.items in
    let now = c.edge.new.input in
    let h = c.moves.invariant in
    let is = edge_on g c in
    let full = is.full in
    record {
      input = is.input;
      offers = λ f d. (skipped_on t.grammar cells c.args.kinds.now read c.moves.input full is.skips h.so_far.input).1 trees f (is.offers f d);
      offer = λ f e. subst (IsOffer t cells trees c.args.kinds.now read now) e is.offer;
      came = prefix_came (all_trees c.args.store.now c.args.input) cells read c.moves.input full now h.came.left is.skips is.came;
      older = come_older c.args.number 0 (all_trees cells c.moves.input) (all_trees cells now) (prefix_from cells c.moves.input full now is.skips is.came) h.so_far.older;
    }

-- the state that the machine is in
stands : (g : _) (c : After-state g) (h : HasStates c.args.tables.now (plain_of c.moves.store c.moves.self.stack.items) c.moves.self.states.items)
    → IsStateOf c.args.tables.now h.symbols c.state.result
stands g c h = subst (IsStateOf c.args.tables.now h.symbols) (sym c.state.ensures) (top_stands c.args.tables.now (plain_of c.moves.store c.moves.self.stack.items) c.moves.self.states.items h)

-- the plain machine has come there too
arrived : (g : _) (c : After-state g) → Reached c.args.tables.now c.args.kinds.now c.moves.store c.moves.self.stack.items c.moves.self.states.items c.moves.self.read
arrived g c = reached c.args.tables.now (input_of c.args.store.now c.args.input c.args.kinds.now 0) c.args.kinds.now (length c.args.store.now) c.args.number
    c.moves.store c.moves.self.stack.items c.moves.self.states.items c.moves.self.read c.moves.input c.moves.invariant.so_far c.requires.accepted.productive

-- how far the run has come, of equal parts
brought : {t : Sets} {whole : List Tree} {kinds : List Kind} {before number : ℕ} {cells : List Cell} {input : List Stamped} {stack stack' rest rest' : List Child}
    {states states' : List ℕ} {read read' : ℕ} → stack' ≡ stack → states' ≡ states → read' ≡ read → rest' ≡ rest
    → SoFar t whole kinds before number cells stack states read rest → CameFrom input before number cells stack read rest
    → SoFar t whole kinds before number cells stack' states' read' rest' × CameFrom input before number cells stack' read' rest'
brought {t} {whole} {kinds} {before} {number} {cells} {input} a b n r so_far came =
    subst (λ (x : List Child × List ℕ × ℕ × List Child). SoFar t whole kinds before number cells x.0 x.1 x.2 x.3 × CameFrom input before number cells x.0 x.2 x.3)
    (λ i. (sym a i, sym b i, sym n i, sym r i)) (so_far, came)

pub edge-requires-clause-input : goal.edge-requires-clause-input
edge-requires-clause-input g c = subst (λ kinds. IsInput c.args.tables.now.grammar c.moves.store c.moves.input kinds c.moves.self.read) (sym c.moves.invariant.same) c.moves.invariant.so_far.input

pub moves-preserved-in-Tree : goal.moves-preserved-in-Tree
moves-preserved-in-Tree g c =
    let kinds = c.args.kinds.now in
    let cells = c.moves.store in
    let m = c.moves.self in
    let h = c.moves.invariant in
    let now = c.edge.new.input in
    let edge = tried g (goal.at.moves-preserved-in-Tree g c).In_ok-edge in
    let id = c.in-Tree.id in
    let offer = edge.offer (OffersTree id c.in-Tree.next) c.in-Tree.is in
    let rest = c.take.new.self in
    let now_is = taken c.take.result now rest offer.0.0 (Node id) c.take.ensures offer.0.1 in
    let one = taken_on c.args.tables.now (input_of c.args.store.now c.args.input kinds 0) kinds (length c.args.store.now) c.args.number cells m.stack.items m.states.items m.read
    c.moves.input h.so_far now rest id c.in-Tree.next now_is edge.input edge.offers edge.older offer.1 in
    let came = came_taken (all_trees c.args.store.now c.args.input) (length c.args.store.now) c.args.number cells m.stack.items m.read c.moves.input h.came now rest id now_is edge.came edge.older in
    let n = length (yield (plain_tree (tree cells (Node id)))) in
    let count : c.tokens.result ≡ n = c.tokens.ensures.is ∙ counted n (omega (arith, one.within, c.len-count.ensures, c.len-count.type_inv)) in
    let push = c.in_ok-push-in-Tree.ensures in
    let read : c.push.new.self.read + c.tokens.result ≡ m.read + n = omega (arith, push.read, count) in
    let both = brought push.stack push.states read refl one came in
    record { so_far = both.0; came = both.1; grown = h.grown; same = c.in_ok-edge.ensures.same ∙ h.same }

pub overflow_add-self-in-Some-Shift : goal.overflow_add-self-in-Some-Shift
overflow_add-self-in-Some-Shift g c =
    let offer = (tried g (goal.at.overflow_add-self-in-Some-Shift g c).In_ok-edge).offer (OffersNext c.in-Next.look) c.in-Next.is in
    omega (arith, slice_get_within c.args.kinds.now c.moves.self.read c.in-Some.kind (sym offer.0 ∙ c.in-Some.is), c.len-count.ensures, c.len-count.type_inv, c.in_ok-push-in-Some-Shift.ensures.read)

pub moves-smaller-in-Some-Shift : goal.moves-smaller-in-Some-Shift
moves-smaller-in-Some-Shift g c =
    let offer = (tried g (goal.at.moves-smaller-in-Some-Shift g c).In_ok-edge).offer (OffersNext c.in-Next.look) c.in-Next.is in
    omega (arith, slice_get_within c.args.kinds.now c.moves.self.read c.in-Some.kind (sym offer.0 ∙ c.in-Some.is), c.in_ok-push-in-Some-Shift.ensures.read)

pub moves-preserved-in-Some-Shift : goal.moves-preserved-in-Some-Shift
moves-preserved-in-Some-Shift g c =
    let at = goal.at.moves-preserved-in-Some-Shift g c in
    let t = c.args.tables.now in
    let kinds = c.args.kinds.now in
    let cells = c.moves.store in
    let m = c.moves.self in
    let h = c.moves.invariant in
    let now = c.edge.new.input in
    let edge = tried g at.In_ok-edge in
    let offer = edge.offer (OffersNext c.in-Next.look) c.in-Next.is in
    let k = c.in-Some.kind in
    let is : slice_get kinds m.read ≡ Some k = sym offer.0 ∙ c.in-Some.is in
    let rest = c.take-in-Some-Shift.new.self in
    let after = after_first t.grammar cells kinds m.read now rest c.take-in-Some-Shift.result k offer.1 edge.input is c.take-in-Some-Shift.ensures in
    let symbols = h.so_far.has_states.symbols in
    let there = stands g at.After-state h.so_far.has_states in
    let called : HasMove t.grammar symbols (Some k) Shift = subst (λ l. HasMove t.grammar symbols l Shift) c.in-Some.is
    (subst (λ move. HasMove t.grammar symbols c.in-Next.look (plain move)) c.in-Some-Shift.field-0-is (c.in-Some-Shift.ensures.is symbols there)) in
    let rule : k ≡ Token called.calls.0 = let same : Some k ≡ Some (Token called.calls.0) = called.calls.3 in cc same in
    let goes = c.in-Some-Shift.ensures.shifts symbols called.calls.0 c.in-Some-Shift.next there (c.in-Some.is ∙ ap Some rule) (ap Some c.in-Some-Shift.field-0-is) in
    let one = shifted_on t (input_of c.args.store.now c.args.input kinds 0) kinds (length c.args.store.now) c.args.number cells m.stack.items m.states.items m.read
    c.moves.input h.so_far now rest k called.calls.0 c.in-Some-Shift.next after edge.input edge.offers edge.older rule (slice_get_within kinds m.read k is) called goes in
    let input = all_trees c.args.store.now c.args.input in
    let came = came_shifted input (length c.args.store.now) c.args.number cells m.stack.items m.read c.moves.input h.came rest k
    (come_on m.read 1 input (all_trees cells now) (all_trees cells rest) edge.came after.came) in
    let push = c.in_ok-push-in-Some-Shift.ensures in
    let both = brought push.stack push.states (ap (λ n. n + 1) push.read) refl one came in
    record { so_far = both.0; came = both.1; grown = h.grown; same = c.in_ok-edge.ensures.same ∙ h.same }

pub moves-preserved : goal.moves-preserved
moves-preserved g c =
    let at = goal.at.moves-preserved g c in
    let t = c.args.tables.now in
    let kinds = c.args.kinds.now in
    let cells = c.moves.store in
    let m = c.moves.self in
    let h = c.moves.invariant in
    let begun = edge_on g at.In_ok-edge in
    let full = begun.full in
    let skips = begun.skips in
    let on = skipped_on t.grammar cells kinds m.read c.moves.input full skips h.so_far.input in
    let edge = tried g at.In_ok-edge in
    let offer = edge.offer (OffersNext c.in-Next.look) c.in-Next.is in
    let states = h.so_far.has_states in
    let p = c.in-Some-Reduce.production in
    let new = c.reduce.new.store in
    let m' = c.reduce.new.self in
    let called : HasMove t.grammar states.symbols c.in-Next.look (Reduce p) = subst (λ move. HasMove t.grammar states.symbols c.in-Next.look (plain move)) c.in-Some-Reduce.field-0-is
    (c.in-Some-Reduce.ensures.is states.symbols (stands g at.After-state states)) in
    let done = c.in_ok-reduce-in-Some-Reduce.ensures in
    let reduces = subst (λ l. Reduces t.grammar (plain_of cells m.stack.items) l (plain_of new m'.stack.items)) offer.0 (done.reduced c.in-Next.look states.symbols states.roots called) in
    let closed = c.in_ok-close-in-Some-Reduce.ensures full begun.opened begun.len begun.first in
    let one = reduced_on t (input_of c.args.store.now c.args.input kinds 0) kinds (length c.args.store.now) c.args.number cells m.stack.items m.states.items m.read
    c.moves.input h.so_far c.edge.new.input offer.1 edge.offers p new m'.stack.items m'.states.items done.made reduces done.states full on.0 on.1
    (come_older c.args.number 0 (all_trees cells c.moves.input) (all_trees cells full) (skipped_came cells c.moves.input full skips) h.so_far.older) in
    let input = all_trees c.args.store.now c.args.input in
    let came = came_reduced input (length c.args.store.now) c.args.number cells m.stack.items m.read c.moves.input h.came p new m'.stack.items done.made h.so_far.below full on.0.below
    (skipped_left input cells m.read c.moves.input full h.came.left skips) in
    let both = brought refl refl done.read closed one came in
    record { so_far = both.0; came = both.1; grown = prefix_stays c.args.store.now cells new h.grown done.grown; same = c.in_ok-edge.ensures.same ∙ h.same }

pub returns-in-Some-Accept-clause-stops : goal.returns-in-Some-Accept-clause-stops
returns-in-Some-Accept-clause-stops g c =
    let at = goal.at.returns-in-Some-Accept-clause-stops g c in
    let t = c.args.tables.now in
    let kinds = c.args.kinds.now in
    let m = c.moves.self in
    let here = arrived g at.After-state in
    let symbols = here.has_states.symbols in
    let called : HasMove t.grammar symbols (slice_get kinds m.read) Accept = subst (λ l. HasMove t.grammar symbols l Accept)
    ((tried g at.In_ok-edge).offer (OffersNext c.in-Next.look) c.in-Next.is).0
    (subst (λ move. HasMove t.grammar symbols c.in-Next.look (plain move)) c.in-Some-Accept.field-0-is (c.in-Some-Accept.ensures.is symbols (stands g at.After-state here.has_states))) in
    at_tree t c.requires.accepted kinds c.moves.store m.stack.items m.states.items m.read here called

pub returns-in-None-clause-stops : goal.returns-in-None-clause-stops
returns-in-None-clause-stops g c =
    let at = goal.at.returns-in-None-clause-stops g c in
    let t = c.args.tables.now in
    let kinds = c.args.kinds.now in
    let cells = c.moves.store in
    let m = c.moves.self in
    let here = arrived g at.After-state in
    let stuck : IsStuck t c.requires.accepted kinds cells m.stack.items m.states.items m.read here = λ move called. c.in-None.ensures.is here.has_states.symbols
    (stands g at.After-state here.has_states) move
    (subst (λ l. HasMove t.grammar here.has_states.symbols l move) (sym ((tried g at.In_ok-edge).offer (OffersNext c.in-Next.look) c.in-Next.is).0) called) in
    elim c.if-self-count.branch [
      | then-self-count w ↦ subst (λ halt. IsStoppedAt t kinds cells (verdict_of halt m.stack.items) m.stack.items m.states.items) (sym w.result-is)
          (at_fault t c.requires.accepted kinds cells m.stack.items m.states.items m.read here stuck (omega (arith, w.if-self-count.true, c.len-count.ensures)))
      | else-self-count w ↦ subst (λ halt. IsStoppedAt t kinds cells (verdict_of halt m.stack.items) m.stack.items m.states.items) (sym w.result-is)
          (at_end t c.requires.accepted kinds cells m.stack.items m.states.items m.read here stuck (omega (arith, w.if-self-count.false, c.len-count.ensures)))
    ]
