-- What follows from the place where the machine stops.
use Rattle.parser.proofs.Std.{◌≡◌, ℕ, ◌<◌, ◌≤◌, zero, suc, List, [], ◌∷◌, ◌++◌, length, take, drop, slice_get, Option, Some, None, refl, sym, ap, ◌∙◌, subst, arith, length-take, take_all, slice_get_past}
use Rattle.parser.proofs.Common.{Kind, TokenRule, Invalid, Nonterminal, Grammar, Tree, Leaf, IsTree, all_kinds, plain, IsVerdict, IsTreeOf, AllProductive, FaultAt, IsSettledIn, IsSettled, Move, HasMove, HasNoConflict, Accept, AreDocumentTrees, Answer}
use Rattle.parser.proofs.Common.{Run, IsStackAfter, StackHasMove, roots_unique, accepted_tree, read_settled, settled_run, verdict_at_kind, verdict_at_end, stuck_at_kind, stuck_at_end, NodeId, Child, Token, Node, Cell, tree, Sets, IsAccepted}
use Rattle.parser.proofs.Common.{TreeAt, StopsAt, StopsAtEnd, Accepted, HaltsAt, HaltsAtEnd, plain_of, AreStacked, IsStoppedAt, before_fault, last_leaf, verdict_of}
use Rattle.parser.proofs.Moves.{Reached, top_stands, run_on}

pub last-append : (before : List Kind) (last : Kind) → last_leaf (before ++ (last ∷ [])) ≡ Leaf last ∷ []
last-append (j ∷ k ∷ before) last = last-append (k ∷ before) last
last-append d last = refl

split_at : (kinds : List Kind) (read : ℕ) (k : Kind) → slice_get kinds read ≡ Some k → kinds ≡ take read kinds ++ (k ∷ drop (suc read) kinds)
split_at [] read k e = absurd (cc e)
split_at (j ∷ kinds) zero k e = let same : j ≡ k = cc e in ap (λ l. l ∷ kinds) same
split_at (j ∷ kinds) (suc read) k e = ap (λ l. j ∷ l) (split_at kinds read k e)

kind_there : (kinds : List Kind) (read : ℕ) → read < length kinds → (k : Kind) × (slice_get kinds read ≡ Some k)
kind_there [] read h = absurd (omega (arith, h))
kind_there (j ∷ kinds) zero h = (j, refl)
kind_there (j ∷ kinds) (suc read) h = kind_there kinds read (omega (arith, h))

none_there : (kinds : List Kind) (read : ℕ) → slice_get kinds read ≡ None → length kinds ≤ read
none_there [] read e = omega arith
none_there (j ∷ kinds) zero e = absurd (cc e)
none_there (j ∷ kinds) (suc read) e = omega (arith, none_there kinds read e)

module _ (g : Grammar) where
  no_leaf : (k : Kind) (n : ℕ) → IsTree g (Leaf k) (Nonterminal n) → ⊥
  no_leaf (TokenRule a) n h = h
  no_leaf Invalid n h = h

  module _ (free : HasNoConflict g) (productive : AllProductive g) where
    -- the stack after x has what x settles, and x's last kind
    pub after_settled : (x : List Kind) (stack : List Tree) → IsStackAfter g x stack → (trees : List Tree) × IsSettled g x trees × (stack ≡ trees ++ last_leaf x)
    after_settled [] stack e = ([], refl, e)
    after_settled (k ∷ x) stack (before, last, below, x_is, read, shift, stack_is) =
        let settled = read_settled g free productive before last below read shift in
        (below, subst (λ l. IsSettledIn g l below) (sym x_is) settled, stack_is ∙ ap (λ l. below ++ l) (sym (ap last_leaf x_is ∙ last-append before last)))

  -- and the other way round
  pub settled_after : (x : List Kind) (trees stack : List Tree) → IsSettled g x trees → stack ≡ trees ++ last_leaf x → IsStackAfter g x stack
  settled_after [] trees stack h e = e ∙ ap (λ l. l ++ []) h
  settled_after (k ∷ x) trees stack h e =
      let last : last_leaf (k ∷ x) ≡ Leaf h.last ∷ [] = ap last_leaf h.kinds ∙ last-append (all_kinds trees) h.last in
      let run = settled_run g (k ∷ x) trees h in
      (all_kinds trees, h.last, trees, h.kinds, run.0, run.1, e ∙ ap (λ l. trees ++ l) last)

  -- one tree on the stack is a node's
  pub one_node : (cells : List Cell) (stack : List Child) (t : Tree) (n : ℕ) → plain_of cells stack ≡ t ∷ [] → IsTree g t (Nonterminal n) → (id : NodeId) × (stack ≡ Node id ∷ [])
  one_node cells (Token k ∷ []) t n e h = let same : t ≡ Leaf k = cc e in absurd (no_leaf k n (subst (λ u. IsTree g u (Nonterminal n)) same h))
  one_node cells (Node id ∷ []) t n e h = (id, refl)
  one_node cells d t n e h = absurd (cc e)

module _ (t : Sets) (accepted : IsAccepted t.grammar) (kinds : List Kind) (cells : List Cell) (stack : List Child) (states : List ℕ) (read : ℕ) (h : Reached t kinds cells stack states read) where
  pub some_state : 0 < length states
  some_state = omega (arith, h.has_states.long)

  -- the machine has no move
  abbrev pub IsStuck : Type 0
  IsStuck = (move : Move) → HasMove t.grammar h.has_states.symbols (slice_get kinds read) move → ⊥

  no_move : (next : Option Kind) → slice_get kinds read ≡ next → IsStuck → StackHasMove t.grammar (plain_of cells stack) next → ⊥
  no_move next e stuck m =
      let same = roots_unique t.grammar (plain_of cells stack) m.symbols h.has_states.symbols m.roots h.has_states.roots in
      stuck m.move (subst (λ l. HasMove t.grammar l (slice_get kinds read) m.move) same (subst (λ l. HasMove t.grammar m.symbols l m.move) (sym e) m.called))

  pub at_fault : IsStuck → read < length kinds → IsStoppedAt t kinds cells (StopsAt read) stack states
  at_fault stuck lt =
      let g = t.grammar in
      let trees = plain_of cells stack in
      let x = take read kinds in
      let there = kind_there kinds read lt in
      let k = there.0 in
      let after = drop (suc read) kinds in
      let none = no_move (Some k) there.1 stuck in
      let run : Run g (Some k) h.shifted [] trees = subst (λ l. Run g l h.shifted [] trees) there.1 h.run in
      let place : length x ≡ read = omega (arith, length-take read kinds, lt) in
      let fault : IsVerdict g (x ++ (k ∷ after)) (FaultAt (length x)) = verdict_at_kind g accepted.free accepted.productive x k after h.shifted trees h.after run none in
      let same = (stuck_at_kind g accepted.free accepted.productive x h.shifted trees k h.after run none).1 in
      let settled = after_settled g accepted.free accepted.productive x trees (subst (IsStackAfter g x) (sym same) h.after) in (
        some_state,
        record {
          below = h.below;
          verdict = subst (λ n. IsVerdict g kinds (FaultAt n)) place (subst (λ l. IsVerdict g l (FaultAt (length x))) (sym (split_at kinds read k there.1)) fault);
          stack = record { trees = settled.0; are = settled.1; stack_is = settled.2 };
          root = (HaltsAt read, refl);
          roots = h.has_states.symbols;
          are_roots = h.has_states.roots;
          state = top_stands t trees states h.has_states;
        },
      )

  pub at_end : IsStuck → length kinds ≤ read → IsStoppedAt t kinds cells StopsAtEnd stack states
  at_end stuck le =
      let g = t.grammar in
      let trees = plain_of cells stack in
      let all : take read kinds ≡ kinds = take_all read kinds le in
      let next : slice_get kinds read ≡ None = slice_get_past kinds read le in
      let none = no_move None next stuck in
      let run : Run g None h.shifted [] trees = subst (λ l. Run g l h.shifted [] trees) next h.run in
      let after : IsStackAfter g kinds h.shifted = subst (λ l. IsStackAfter g l h.shifted) all h.after in
      let same = (stuck_at_end g accepted.free accepted.productive kinds h.shifted trees after run none).1 in
      let settled = after_settled g accepted.free accepted.productive kinds trees (subst (IsStackAfter g kinds) (sym same) after) in (
        some_state,
        record {
          below = h.below;
          verdict = verdict_at_end g accepted.free accepted.productive kinds h.shifted trees after run none;
          stack = record { trees = settled.0; are = settled.1; stack_is = settled.2 };
          root = (HaltsAtEnd, refl);
          roots = h.has_states.symbols;
          are_roots = h.has_states.roots;
          state = top_stands t trees states h.has_states;
        },
      )

  module _ (called : HasMove t.grammar h.has_states.symbols (slice_get kinds read) Accept) where
    the_tree : (u : Tree) × (plain_of cells stack ≡ u ∷ []) × IsTreeOf t.grammar (take read kinds) u × (slice_get kinds read ≡ None)
    the_tree = accepted_tree t.grammar (take read kinds) (plain_of cells stack) h.has_states.symbols (slice_get kinds read)
        (run_on t.grammar (take read kinds) h.shifted (plain_of cells stack) (slice_get kinds read) h.after h.run) h.has_states.roots called

    one_on_stack : (id : NodeId) × (stack ≡ Node id ∷ [])
    one_on_stack = one_node t.grammar cells stack the_tree.0 t.grammar.start the_tree.1 the_tree.2.root

    pub at_tree : IsStoppedAt t kinds cells (verdict_of Accepted stack) stack states
    at_tree =
        let g = t.grammar in
        let id = one_on_stack.0 in
        let e = one_on_stack.1 in
        let root : TreeAt id ≡ verdict_of Accepted stack = ap (verdict_of Accepted) (sym e) in
        let u = the_tree.0 in
        let all : take read kinds ≡ kinds = take_all read kinds (none_there kinds read the_tree.3) in
        let node : plain (tree cells (Node id)) ∷ [] ≡ u ∷ [] = sym (ap (plain_of cells) e) ∙ the_tree.1 in
        let same : plain (tree cells (Node id)) ≡ u = cc node in
        subst (λ v. IsStoppedAt t kinds cells v stack states) root (
          some_state,
          record {
            below = h.below;
            verdict = subst (IsTreeOf g kinds) (sym same) (subst (λ l. IsTreeOf g l u) all the_tree.2);
            stack = record { trees = plain (tree cells (Node id)) ∷ []; are = refl; stack_is = ap (plain_of cells) e };
            root = (Accepted, root);
            roots = h.has_states.symbols;
            are_roots = h.has_states.roots;
            state = top_stands t (plain_of cells stack) states h.has_states;
          },
        )

-- equal verdicts have equal stacks
pub stacks_once : (g : Grammar) (kinds : List Kind) (v w : Answer) (one two : List Tree) → v ≡ w
    → ((ts us : List Tree) → AreDocumentTrees g kinds v ts → AreDocumentTrees g kinds w us → ts ≡ us) → AreStacked g kinds v one → AreStacked g kinds w two → one ≡ two
stacks_once g kinds v w one two same once a b =
    a.stack_is ∙ (λ i. once a.trees b.trees a.are b.are i ++ last_leaf (before_fault kinds (same i))) ∙ sym b.stack_is
