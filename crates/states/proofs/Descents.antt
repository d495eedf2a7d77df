-- The way from the root of a tree down to one of its tokens, with the states of what stands before it on the stack.
use Rattle.states.proofs.Std.{◌++◌, ◌+◌, ◌<◌, ◌≡◌, ◌≤◌, ◌∙◌, ◌∷◌, [], List, ap, append_assoc, append-nil, arith, get_or, length, length-append, refl, subst, sym, take, ℕ}
use Rattle.states.proofs.Common.{AreStatesAfter, Branch, Forest, Grammar, HasStates, IsStateOf, Kind, Leaf, Nonterminal, Sets, Symbol, Terminal, Tree, roots-append, states_push}
use Rattle.std.proofs.Math.Seq.{take-append-add}
use Rattle.definitions.specs.Settled.{At, Down, IsSettled, IsSettledIn, Next, This, Way, WayAmong}
use Rattle.definitions.specs.TreeEdits.{Stamped, StampedBranch, plain, plain_all, plain_trees}
use Rattle.definitions.specs.Trees.{AreTrees, IsTree, all_kinds, yield, yields}
use Rattle.parser.proofs.StopDecides.{settled_after}
use Rattle.parser.specs.Machine.{plain_of}
use Rattle.parser.specs.Parses.{last_leaf}
use Rattle.theory.proofs.PathToLeaf.{way_kinds}
use Rattle.theory.proofs.StackIsRead.{kinds-append}
use Rattle.trees.specs.Cells.{AreBelow, Cell, IsBelow, forest_in, forest_of, tree, tree_of, trees_from, trees_of}
use Rattle.trees.specs.declared.store.Child.{Child}
use Rattle.trees.specs.declared.store.Child.TheVariants.{Node, Token}
use Rattle.trees.specs.declared.store.NodeId.{NodeId}
use Rattle.states.specs.Descents.{AreWays, IsEntered}
use Rattle.states.specs.declared.descent.Inside.{Inside}

-- one tree more on the stack
pub pushed : (t : Sets) (stack : List Tree) (states : List ℕ) (has : HasStates t stack states) (u : Tree) (s : Symbol) (next : ℕ) → IsTree t.grammar u s
    → IsStateOf t (has.symbols ++ s ∷ []) next → HasStates t (stack ++ u ∷ []) (states ++ next ∷ [])
pushed t stack states has u s next is there =
    states_push t stack (stack ++ u ∷ []) states has s next (roots-append t.grammar stack (u ∷ []) has.symbols (s ∷ []) has.roots (is, tt)) there

-- before any tree
pub has_first : (t : Sets) (start : ℕ) → IsStateOf t [] start → HasStates t [] (start ∷ [])
has_first t start h = record {
  symbols = [];
  roots = tt;
  long = refl;
  each = λ i lt. let first : 0 ≡ i = omega (arith, lt) in subst (λ j. IsStateOf t (take j []) (get_or (start ∷ []) j 0)) first h;
}

-- ---- over the children of a node

pub plain_of-append : (cells : List Cell) (one two : List Child) → plain_of cells (one ++ two) ≡ plain_of cells one ++ plain_of cells two
plain_of-append cells [] two = refl
plain_of-append cells (c ∷ one) two = ap (λ ts. plain (tree cells c) ∷ ts) (plain_of-append cells one two)

-- some of the children are passed over, with the states after them; the token is among the rest
pub record ArePassed (t : Sets) (cells : List Cell) (children : List Child) (place : ℕ) (old now : List ℕ) (left : ℕ) (rest : List Child) : Type 0 where
  pub passed : List Child
  pub split : children ≡ passed ++ rest
  pub states : (stack : List Tree) → HasStates t stack old → HasStates t (stack ++ plain_of cells passed) now
  pub counted : length (all_kinds (plain_of cells passed)) + left ≡ place
  pub symbols : List Symbol
  pub trees : AreTrees t.grammar (plain_all (forest_in cells rest)) symbols
  pub below : AreBelow (length cells) rest

pub none_passed : (t : Sets) (cells : List Cell) (children : List Child) (place : ℕ) (old : List ℕ) (rest : List Child) → rest ≡ children → (ss : List Symbol)
    → AreTrees t.grammar (plain_all (forest_in cells children)) ss → AreBelow (length cells) children → ArePassed t cells children place old old place rest
none_passed t cells children place old rest same ss trees below = record {
  passed = [];
  split = sym same;
  states = λ stack h. subst (λ s. HasStates t s old) (sym (append-nil stack)) h;
  counted = omega arith;
  symbols = ss;
  trees = subst (λ cs. AreTrees t.grammar (plain_all (forest_in cells cs)) ss) (sym same) trees;
  below = subst (AreBelow (length cells)) (sym same) below;
}

-- the first of some trees
pub first_tree : (g : Grammar) (cells : List Cell) (c : Child) (rest : List Child) (ss : List Symbol) → AreTrees g (plain_all (forest_in cells (c ∷ rest))) ss
    → (s : Symbol) × (others : List Symbol) × IsTree g (plain (tree cells c)) s × AreTrees g (plain_all (forest_in cells rest)) others
first_tree g cells c rest [] h = elim h [ ]
first_tree g cells c rest (s ∷ others) h = (s, others, h.0, h.1)

module _ (t : Sets) (cells : List Cell) (children : List Child) (place : ℕ) (old now : List ℕ) (left : ℕ) (c : Child) (rest : List Child)
    (h : ArePassed t cells children place old now left (c ∷ rest)) where
  pub one_passed : (later : List ℕ) (count less : ℕ) → length (yield (plain (tree cells c))) + less ≡ left
      → ((stack : List Tree) (s : Symbol) → HasStates t stack now → IsTree t.grammar (plain (tree cells c)) s → HasStates t (stack ++ plain (tree cells c) ∷ []) later)
      → ArePassed t cells children place old later less rest
  one_passed later count less fewer push =
      let first = first_tree t.grammar cells c rest h.symbols h.trees in
      let more : plain_of cells (h.passed ++ c ∷ []) ≡ plain_of cells h.passed ++ plain (tree cells c) ∷ [] = plain_of-append cells h.passed (c ∷ []) in
      let kinds : length (all_kinds (plain_of cells (h.passed ++ c ∷ []))) ≡ length (all_kinds (plain_of cells h.passed)) + length (yield (plain (tree cells c))) =
      ap (λ ts. length (all_kinds ts)) more ∙ ap length (kinds-append (plain_of cells h.passed) (plain (tree cells c) ∷ []))
      ∙ length-append (all_kinds (plain_of cells h.passed)) (yield (plain (tree cells c)) ++ [])
      ∙ ap (λ ks. length (all_kinds (plain_of cells h.passed)) + length ks) (append-nil (yield (plain (tree cells c)))) in
      record {
        passed = h.passed ++ c ∷ [];
        split = h.split ∙ sym (append_assoc h.passed (c ∷ []) rest);
        states = λ stack has. subst (λ s. HasStates t s later)
            (append_assoc stack (plain_of cells h.passed) (plain (tree cells c) ∷ []) ∙ ap (λ ts. stack ++ ts) (sym more))
            (push (stack ++ plain_of cells h.passed) first.0 (h.states stack has) first.2);
        counted = omega (arith, kinds, h.counted, fewer);
        symbols = first.1;
        trees = first.3;
        below = h.below.1;
      }

  pub entered : (inside : Inside) → inside.child ≡ c → inside.place ≡ left → left < length (yield (plain (tree cells c)))
      → IsEntered t cells children place old now inside
  entered inside child at within = record {
    passed = h.passed;
    left = rest;
    split = subst (λ d. children ≡ h.passed ++ d ∷ rest) (sym child) h.split;
    states = h.states;
    counted = omega (arith, h.counted, at);
    within = subst (λ d. inside.place < length (yield (plain (tree cells d)))) (sym child) (omega (arith, within, at));
  }

-- ---- down to the token

among : (ts : List Stamped) (passed : List Child) (c : Child) (left : List Child) (ls : List Tree) (k : Kind) (after : List Kind) → Way (plain (tree_of ts c)) ls k after
    → (later : List Kind) × WayAmong (plain_all (forest_of ts (passed ++ c ∷ left))) (plain_trees (trees_of ts passed) ++ ls) k later
among ts [] c left ls k after w = (after ++ yields (plain_all (forest_of ts left)), This w)
among ts (d ∷ passed) c left ls k after w = let r = among ts passed c left ls k after w in (r.0, Next r.1)

-- the tree of one of the children, and its place below the others
one_tree : (g : Grammar) (ts : List Stamped) (passed : List Child) (c : Child) (left : List Child) (ss : List Symbol)
    → AreTrees g (plain_all (forest_of ts (passed ++ c ∷ left))) ss → (s : Symbol) × IsTree g (plain (tree_of ts c)) s
one_tree g ts [] c left [] h = elim h [ ]
one_tree g ts [] c left (s ∷ ss) h = (s, h.0)
one_tree g ts (d ∷ passed) c left [] h = elim h [ ]
one_tree g ts (d ∷ passed) c left (s ∷ ss) h = one_tree g ts passed c left ss h.1

one_below : (n : ℕ) (passed : List Child) (c : Child) (left : List Child) → AreBelow n (passed ++ c ∷ left) → IsBelow n c
one_below n [] c left h = h.0
one_below n (d ∷ passed) c left h = one_below n passed c left h.1

pub more_below : (m n : ℕ) → m ≤ n → (cs : List Child) → AreBelow m cs → AreBelow n cs
more_below m n le [] h = h
more_below m n le (Token k ∷ cs) h = (tt, more_below m n le cs h.1)
more_below m n le (Node id ∷ cs) h = (omega (arith, h.0), more_below m n le cs h.1)

-- what stands before the tree in which the token is
pub record IsDown (t : Sets) (cells : List Cell) (stack : List Child) (place : ℕ) (states : List ℕ) (inside : Inside) : Type 0 where
  pub lefts : List Tree
  pub way : (whole : Tree) → AreWays whole cells stack → (ls : List Tree) (k : Kind) (after : List Kind) → Way (plain (tree cells inside.child)) ls k after
      → (later : List Kind) × Way whole (lefts ++ ls) k later
  pub has : HasStates t lefts states
  pub counted : length (all_kinds lefts) + inside.place ≡ place
  pub within : inside.place < length (yield (plain (tree cells inside.child)))
  pub below : IsBelow (length cells) inside.child
  pub symbol : Symbol
  pub is : IsTree t.grammar (plain (tree cells inside.child)) symbol
  pub among_all : place < length (all_kinds (plain_of cells stack))

pub down_first : (t : Sets) (cells : List Cell) (stack : List Child) (place : ℕ) (old states : List ℕ) (inside : Inside) → HasStates t [] old
    → AreBelow (length cells) stack → (ss : List Symbol) → AreTrees t.grammar (plain_all (forest_in cells stack)) ss
    → IsEntered t cells stack place old states inside → IsDown t cells stack place states inside
down_first t cells stack place old states inside has below ss trees e =
    let split = subst (λ cs. AreTrees t.grammar (plain_all (forest_in cells cs)) ss) e.split trees in
    let one = one_tree t.grammar (trees_from [] cells) e.passed inside.child e.left ss split in
    let all : length (all_kinds (plain_of cells stack)) ≡ length (all_kinds (plain_of cells e.passed)) + (length (yield (plain (tree cells inside.child))) + length (all_kinds
    (plain_of cells e.left))) =
    ap (λ cs. length (all_kinds (plain_of cells cs))) e.split ∙ ap (λ ts. length (all_kinds ts)) (plain_of-append cells e.passed (inside.child ∷ e.left))
    ∙ ap length (kinds-append (plain_of cells e.passed) (plain_of cells (inside.child ∷ e.left)))
    ∙ length-append (all_kinds (plain_of cells e.passed)) (yield (plain (tree cells inside.child)) ++ all_kinds (plain_of cells e.left))
    ∙ ap (λ n. length (all_kinds (plain_of cells e.passed)) + n) (length-append (yield (plain (tree cells inside.child))) (all_kinds (plain_of cells e.left))) in
    record {
      lefts = plain_of cells e.passed;
      way = λ whole ways. ways e.passed inside.child e.left e.split;
      has = e.states [] has;
      counted = e.counted;
      within = e.within;
      below = one_below (length cells) e.passed inside.child e.left (subst (AreBelow (length cells)) e.split below);
      symbol = one.0;
      is = one.1;
      among_all = omega (arith, all, e.counted, e.within);
    }

children_of : (g : Grammar) (p : ℕ) (f : Forest) (s : Symbol) → IsTree g (Branch p f) s → (ss : List Symbol) × AreTrees g f ss
children_of g p f (Terminal a) h = elim h [ ]
children_of g p f (Nonterminal n) h = (h.0, h.2)

pub node_children : (t : Sets) (cells : List Cell) (stack : List Child) (place : ℕ) (states : List ℕ) (inside : Inside) (h : IsDown t cells stack place states inside) (id : NodeId)
    → inside.child ≡ Node id → (p born : ℕ) (children : List Child) → tree cells (Node id) ≡ StampedBranch p born (forest_of (trees_from [] cells) children)
    → (ss : List Symbol) × AreTrees t.grammar (plain_all (forest_in cells children)) ss
node_children t cells stack place states inside h id node p born children made =
    children_of t.grammar p (plain_all (forest_in cells children)) h.symbol
    (subst (λ u. IsTree t.grammar (plain u) h.symbol) (ap (tree cells) node ∙ made) h.is)

pub down_more : (t : Sets) (cells : List Cell) (stack : List Child) (place : ℕ) (states later : List ℕ) (inside next : Inside) (h : IsDown t cells stack place states inside) (id : NodeId)
    → inside.child ≡ Node id → (p born : ℕ) (children : List Child) → tree cells (Node id) ≡ StampedBranch p born (forest_of (trees_from [] cells) children)
    → AreBelow (length cells) children → IsEntered t cells children inside.place states later next → IsDown t cells stack place later next
down_more t cells stack place states later inside next h id node p born children made below e =
    let trees = node_children t cells stack place states inside h id node p born children made in
    let split = subst (λ cs. AreTrees t.grammar (plain_all (forest_in cells cs)) trees.0) e.split trees.1 in
    let one = one_tree t.grammar (trees_from [] cells) e.passed next.child e.left trees.0 split in
    record {
      lefts = h.lefts ++ plain_of cells e.passed;
      way = λ whole ways ls k after w.
          let r = among (trees_from [] cells) e.passed next.child e.left ls k after w in
          let there : Way (plain (tree cells inside.child)) (plain_of cells e.passed ++ ls) k r.0 =
          subst (λ u. Way (plain u) (plain_of cells e.passed ++ ls) k r.0) (sym (ap (tree cells) node ∙ made))
          (Down (subst (λ cs. WayAmong (plain_all (forest_in cells cs)) (plain_of cells e.passed ++ ls) k r.0) (sym e.split) r.1)) in
          let found = h.way whole ways (plain_of cells e.passed ++ ls) k r.0 there in
          (found.0, subst (λ ts. Way whole ts k found.0) (sym (append_assoc h.lefts (plain_of cells e.passed) ls)) found.1);
      has = e.states h.lefts h.has;
      counted = omega (arith, h.counted, e.counted, ap length (kinds-append h.lefts (plain_of cells e.passed)), length-append (all_kinds h.lefts) (all_kinds (plain_of cells e.passed)));
      within = e.within;
      below = one_below (length cells) e.passed next.child e.left (subst (AreBelow (length cells)) e.split below);
      symbol = one.0;
      is = one.1;
      among_all = h.among_all;
    }

pub last-append : (x : List Kind) (k : Kind) → last_leaf (x ++ k ∷ []) ≡ Leaf k ∷ []
last-append [] k = refl
last-append (j ∷ []) k = refl
last-append (j ∷ l ∷ x) k = last-append (l ∷ x) k

take-front : (x : List Kind) (k : Kind) (after : List Kind) (n : ℕ) → n ≡ length x + 1 → take n (x ++ k ∷ after) ≡ x ++ k ∷ []
take-front x k after n e = ap (λ m. take m (x ++ k ∷ after)) e ∙ take-append-add x (k ∷ after) 1

settled : (g : Grammar) (x : List Kind) (trees : List Tree) (k : Kind) (before : List Kind) → x ≡ before ++ k ∷ [] → IsSettledIn g x trees → IsSettled g x trees
settled g [] trees k [] e h = absurd (cc e)
settled g [] trees k (j ∷ before) e h = absurd (cc e)
settled g (j ∷ x) trees k before e h = h

pub down_last : (t : Sets) (cells : List Cell) (stack : List Child) (place : ℕ) (states later : List ℕ) (inside : Inside) (h : IsDown t cells stack place states inside) (k : Kind)
    → inside.child ≡ Token k → (whole : Tree) → IsTree t.grammar whole (Nonterminal t.grammar.start) → AreWays whole cells stack
    → HasStates t (h.lefts ++ plain (tree cells inside.child) ∷ []) later → AreStatesAfter t (take (place + 1) (yield whole)) later
down_last t cells stack place states later inside h k token whole is ways has =
    let leaf : plain (tree cells inside.child) ≡ Leaf k = ap (λ c. plain (tree cells c)) token in
    let found = h.way whole ways [] k [] (subst (λ u. Way u [] k []) (sym leaf) At) in
    let way : Way whole h.lefts k found.0 = subst (λ ts. Way whole ts k found.0) (append-nil h.lefts) found.1 in
    let none : inside.place < 1 = subst (λ u. inside.place < length (yield u)) leaf h.within in
    let x : List Kind = all_kinds h.lefts ++ k ∷ [] in
    let front : take (place + 1) (yield whole) ≡ x =
    ap (take (place + 1)) (way_kinds way) ∙ take-front (all_kinds h.lefts) k found.0 (place + 1) (omega (arith, h.counted, none)) in
    let done : IsSettled t.grammar x h.lefts =
    settled t.grammar x h.lefts k (all_kinds h.lefts) refl (record { tree = whole; last = k; after = found.0; root = is; way = way; kinds = refl }) in
    let top : h.lefts ++ plain (tree cells inside.child) ∷ [] ≡ h.lefts ++ last_leaf x =
    ap (λ u. h.lefts ++ u ∷ []) leaf ∙ ap (λ l. h.lefts ++ l) (sym (last-append (all_kinds h.lefts) k)) in
    subst (λ y. AreStatesAfter t y later) (sym front) (record {
      stack = h.lefts ++ plain (tree cells inside.child) ∷ [];
      after = settled_after t.grammar x h.lefts (h.lefts ++ plain (tree cells inside.child) ∷ []) done top;
      has = has;
    })
