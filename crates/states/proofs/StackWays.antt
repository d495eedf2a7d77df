-- Where the trees on a parser's stack stand: in one tree, each with those before it at its left.
use Rattle.states.proofs.Std.{◌++◌, ◌+◌, ◌<◌, ◌≡◌, ◌≤◌, ◌∙◌, ◌∷◌, [], List, ap, append_assoc, append-nil, arith, head-eq_of_cons-eq, length, length-take, subst, sym, tail-eq_of_cons-eq, take, take-take, ℕ}
use Rattle.states.proofs.Common.{AreStatesAfter, Forest, Grammar, HaveRoots, Kind, Leaf, Nonterminal, Sets, Symbol, Tree}
use Rattle.std.proofs.lemmas.List.{take-append-le}
use Rattle.std.specs.Prelude.{Err, IfOk, IfSome, None, Ok, Option, Result, Some}
use Rattle.states.specs.Piles.{Standing}
use Rattle.definitions.specs.Sentences.{FaultAt, FaultAtEnd, HasTree, IsVerdict, Verdict}
use Rattle.definitions.specs.Settled.{At, Down, IsSettled, IsSettledIn, Next, This, Way, WayAmong}
use Rattle.definitions.specs.TreeEdits.{plain, plain_all}
use Rattle.definitions.specs.Trees.{AreTrees, Cons, IsTree, all_kinds, yield, yields}
use Rattle.parser.specs.Machine.{plain_of}
use Rattle.parser.specs.Parses.{AreStacked, last_leaf}
use Rattle.theory.proofs.PathToLeaf.{way_kinds}
use Rattle.theory.proofs.StackIsRead.{kinds-append}
use Rattle.trees.specs.Cells.{Cell, forest_in, tree}
use Rattle.trees.specs.declared.store.Child.{Child}
use Rattle.states.proofs.Descents.{last-append, plain_of-append}
use Rattle.states.specs.Descents.{AreWays}

-- the trees of a list are those of a forest
pub roots_forest : (g : Grammar) (cells : List Cell) (cs : List Child) (ss : List Symbol) → HaveRoots g (plain_of cells cs) ss → AreTrees g (plain_all (forest_in cells cs)) ss
roots_forest g cells [] [] h = h
roots_forest g cells [] (s ∷ ss) h = h
roots_forest g cells (c ∷ cs) [] h = h
roots_forest g cells (c ∷ cs) (s ∷ ss) h = (h.0, roots_forest g cells cs ss h.1)

-- where a way goes, others go to what stands at its left, and to its leaf
mutual
  other_way : {t : Tree} {lefts : List Tree} {last : Kind} {after : List Kind} → Way t lefts last after → (a : List Tree) (u : Tree) (b : List Tree)
      → a ++ u ∷ b ≡ lefts ++ Leaf last ∷ [] → (ls : List Tree) (k : Kind) (behind : List Kind) → Way u ls k behind → (later : List Kind) × Way t (a ++ ls) k later
  other_way (At {k = last}) [] u b e ls k behind w = (behind, subst (λ v. Way v ls k behind) (head-eq_of_cons-eq e) w)
  other_way At (x ∷ []) u b e ls k behind w = absurd (cc (tail-eq_of_cons-eq e))
  other_way At (x ∷ y ∷ a) u b e ls k behind w = absurd (cc (tail-eq_of_cons-eq e))
  other_way (Down way) a u b e ls k behind w = let r = other_among way a u b e ls k behind w in (r.0, Down r.1)

  other_among : {f : Forest} {lefts : List Tree} {last : Kind} {after : List Kind} → WayAmong f lefts last after → (a : List Tree) (u : Tree) (b : List Tree)
      → a ++ u ∷ b ≡ lefts ++ Leaf last ∷ [] → (ls : List Tree) (k : Kind) (behind : List Kind) → Way u ls k behind → (later : List Kind) × WayAmong f (a ++ ls) k later
  other_among (This {ts = ts} way) a u b e ls k behind w = let r = other_way way a u b e ls k behind w in (r.0 ++ yields ts, This r.1)
  other_among (Next {t = t} {ts = ts} way) [] u b e ls k behind w =
      (behind ++ yields ts, This (subst (λ v. Way v ls k behind) (head-eq_of_cons-eq e) w))
  other_among (Next {t = t} {ts = ts} way) (x ∷ a) u b e ls k behind w =
      let r = other_among way a u b (tail-eq_of_cons-eq e) ls k behind w in
      (r.0, subst (λ v. WayAmong (Cons t ts) (v ∷ (a ++ ls)) k r.0) (sym (head-eq_of_cons-eq e)) (Next r.1))

-- the stack of a tree
pub ways_of_tree : (cells : List Cell) (stack : List Child) (t : Tree) → plain_of cells stack ≡ t ∷ [] → AreWays t cells stack
ways_of_tree cells stack t is passed c left split ls k after w = go passed (sym (plain_of-append cells passed (c ∷ left)) ∙ ap (plain_of cells) (sym split) ∙ is)
  where
    go : (passed : List Child) → plain_of cells passed ++ plain (tree cells c) ∷ plain_of cells left ≡ t ∷ [] → (later : List Kind) × Way t (plain_of cells passed ++ ls) k later
    go [] e = (after, subst (λ v. Way v ls k after) (head-eq_of_cons-eq e) w)
    go (d ∷ []) e = absurd (cc (tail-eq_of_cons-eq e))
    go (d ∷ f ∷ others) e = absurd (cc (tail-eq_of_cons-eq e))

-- the stack before a fault
pub ways_of_settled : (cells : List Cell) (stack : List Child) (g : Grammar) (x : List Kind) (trees : List Tree) (h : IsSettledIn g x trees)
    → plain_of cells stack ≡ trees ++ Leaf h.last ∷ [] → AreWays h.tree cells stack
ways_of_settled cells stack g x trees h is passed c left split ls k after w =
    other_way h.way (plain_of cells passed) (plain (tree cells c)) (plain_of cells left)
    (sym (plain_of-append cells passed (c ∷ left)) ∙ ap (plain_of cells) (sym split) ∙ is) ls k after w

-- ---- the machine at a token of what a parser has

settled_states : (t : Sets) (cells : List Cell) (stack : List Child) (trees : List Tree) (x : List Kind) → IsSettled t.grammar x trees
    → plain_of cells stack ≡ trees ++ last_leaf x → (place : ℕ) → place < length (all_kinds (plain_of cells stack)) → (states : List ℕ)
    → ((whole : Tree) → IsTree t.grammar whole (Nonterminal t.grammar.start) → AreWays whole cells stack → AreStatesAfter t (take (place + 1) (yield whole)) states)
    → AreStatesAfter t (take (place + 1) x) states × (place < length x)
settled_states t cells stack trees [] h is place lt states f =
    let none : plain_of cells stack ≡ [] = is ∙ append-nil trees ∙ h in
    absurd (omega (arith, lt, ap (λ ts. length (all_kinds ts)) none))
settled_states t cells stack trees (j ∷ y) h is place lt states f =
    let x : List Kind = j ∷ y in
    let last : last_leaf x ≡ Leaf h.last ∷ [] = ap last_leaf h.kinds ∙ last-append (all_kinds trees) h.last in
    let there : plain_of cells stack ≡ trees ++ Leaf h.last ∷ [] = is ∙ ap (λ l. trees ++ l) last in
    let all : all_kinds (plain_of cells stack) ≡ x = ap all_kinds there ∙ kinds-append trees (Leaf h.last ∷ []) ∙ sym h.kinds in
    let few : place + 1 ≤ length x = omega (arith, lt, ap length all) in
    let whole : yield h.tree ≡ x ++ h.after =
    way_kinds h.way ∙ sym (append_assoc (all_kinds trees) (h.last ∷ []) h.after) ∙ ap (λ l. l ++ h.after) (sym h.kinds) in (
      subst (λ ks. AreStatesAfter t ks states) (ap (take (place + 1)) whole ∙ take-append-le (place + 1) x h.after few)
          (f h.tree h.root (ways_of_settled cells stack t.grammar x trees h there)),
      omega (arith, few),
    )

pub states_in : (t : Sets) (kinds : List Kind) (cells : List Cell) (stack : List Child) (v : Verdict) → IsVerdict t.grammar kinds v
    → AreStacked t.grammar kinds v (plain_of cells stack) → (place : ℕ) → place < length (all_kinds (plain_of cells stack)) → (states : List ℕ)
    → ((whole : Tree) → IsTree t.grammar whole (Nonterminal t.grammar.start) → AreWays whole cells stack → AreStatesAfter t (take (place + 1) (yield whole)) states)
    → AreStatesAfter t (take (place + 1) kinds) states
states_in t kinds cells stack (HasTree u) is st place lt states f =
    let one : plain_of cells stack ≡ u ∷ [] = st.stack_is ∙ append-nil st.trees ∙ st.are in
    subst (λ ks. AreStatesAfter t (take (place + 1) ks) states) is.kinds (f u is.root (ways_of_tree cells stack u one))
states_in t kinds cells stack (FaultAt k) is st place lt states f =
    let r = settled_states t cells stack st.trees (take k kinds) st.are st.stack_is place lt states f in
    subst (λ ks. AreStatesAfter t ks states) (take-take (place + 1) k kinds (omega (arith, r.1, length-take k kinds))) r.0
states_in t kinds cells stack FaultAtEnd is st place lt states f = (settled_states t cells stack st.trees kinds st.are st.stack_is place lt states f).0

-- what is found there, if anything is
pub found_at : {E : Type 0} → (t : Sets) (kinds : List Kind) (cells : List Cell) (stack : List Child) (v : Verdict) → IsVerdict t.grammar kinds v
    → AreStacked t.grammar kinds v (plain_of cells stack) → (place : ℕ) → (result : Result (Option Standing) E)
    → IfOk result (λ found. IfSome found (λ pile. place < length (all_kinds (plain_of cells stack))))
    → ((whole : Tree) → IsTree t.grammar whole (Nonterminal t.grammar.start) → AreWays whole cells stack
    → IfOk result (λ found. IfSome found (λ pile. AreStatesAfter t (take (place + 1) (yield whole)) pile.states)))
    → IfOk result (λ found. IfSome found (λ pile. AreStatesAfter t (take (place + 1) kinds) pile.states))
found_at t kinds cells stack v is st place (Ok (Some pile)) lt f = states_in t kinds cells stack v is st place lt pile.states f
found_at t kinds cells stack v is st place (Ok None) lt f = tt
found_at t kinds cells stack v is st place (Err e) lt f = tt
