-- A reduction puts one tree in the place of those of its production's right side, and there is a state to go to.
use Rattle.parser.proofs.Std.{◌≡◌, ℕ, ◌+◌, ◌-◌, ◌<◌, ◌≤◌, zero, suc, List, [], ◌∷◌, ◌++◌, length, take, drop, get_or, Option, refl, sym, ap, ◌∙◌, subst, ⊎_elim}
use Rattle.parser.proofs.Std.{arith, length-append, length-take, length-drop, take-append-drop, cases_lt, take-append-le, get_or_append_left, take_all, get_or-append_seam}
use Rattle.parser.proofs.Common.{Kind, Symbol, Nonterminal, Grammar, Tree, Branch, Forest, trees, HasProduction, HaveRoots, plain, plain_all, plain_trees, Stamped, HasMove, Reduce}
use Rattle.parser.proofs.Common.{Reduces, roots_unique, length-roots, Handle, NodeId, Child, Node, Cell, AreBelow, IsGrown, tree, tree_of, trees_of, trees_from, forest_of, grown-tree, grown-new, Sets, IsStateOf, plain_of, HasStates, HasMade}

pub plain-length : (cells : List Cell) (cs : List Child) → length (plain_of cells cs) ≡ length cs
plain-length cells [] = refl
plain-length cells (c ∷ cs) = omega (arith, plain-length cells cs)

pub plain-append : (cells : List Cell) (xs ys : List Child) → plain_of cells (xs ++ ys) ≡ plain_of cells xs ++ plain_of cells ys
plain-append cells [] ys = refl
plain-append cells (x ∷ xs) ys = ap (λ l. plain (tree cells x) ∷ l) (plain-append cells xs ys)

pub plain-children : (ts : List Stamped) (cs : List Child) → plain_trees (trees_of ts cs) ≡ trees (plain_all (forest_of ts cs))
plain-children ts [] = refl
plain-children ts (c ∷ cs) = ap (λ l. plain (tree_of ts c) ∷ l) (plain-children ts cs)

pub below-append : (n : ℕ) (xs ys : List Child) → AreBelow n xs → AreBelow n ys → AreBelow n (xs ++ ys)
below-append n [] ys h k = k
below-append n (x ∷ xs) ys h k = (h.0, below-append n xs ys h.1 k)

pub below-prefix : (n : ℕ) (xs ys : List Child) → AreBelow n (xs ++ ys) → AreBelow n xs
below-prefix n [] ys h = tt
below-prefix n (x ∷ xs) ys h = (h.0, below-prefix n xs ys h.1)

pub below-drop : (n k : ℕ) (cs : List Child) → AreBelow n cs → AreBelow n (drop k cs)
below-drop n zero cs h = h
below-drop n (suc k) [] h = tt
below-drop n (suc k) (c ∷ cs) h = below-drop n k cs h.1

pub below-take : (n k : ℕ) (cs : List Child) → AreBelow n cs → AreBelow n (take k cs)
below-take n zero cs h = tt
below-take n (suc k) [] h = tt
below-take n (suc k) (c ∷ cs) h = (h.0, below-take n k cs h.1)

take_prefix : {A : Type 0} → (one two : List A) → take (length one) (one ++ two) ≡ one
take_prefix [] two = refl
take_prefix (x ∷ one) two = ap (λ l. x ∷ l) (take_prefix one two)

get_prefix : (k i : ℕ) (l : List ℕ) → i < k → get_or (take k l) i 0 ≡ get_or l i 0
get_prefix zero i l h = absurd (omega (arith, h))
get_prefix (suc k) i [] h = refl
get_prefix (suc k) zero (x ∷ l) h = refl
get_prefix (suc k) (suc i) (x ∷ l) h = get_prefix k i l (omega (arith, h))

-- the stack is what stays, and the slice after it
pub parts : {A : Type 0} → (n : ℕ) (l l' : List A) → l' ≡ l → l ≡ take n l ++ take (length l' - n) (drop n l')
parts n l l' e = subst (λ m. l ≡ take n l ++ take (length m - n) (drop n m)) (sym e)
    (sym (take-append-drop n l) ∙ ap (λ m. take n l ++ m) (sym (take_all (length l - n) (drop n l) (omega (arith, length-drop n l)))))

-- the trees of children stay where the store grows, and the new node is a branch over its children
pub plain-stay : (cells : List Cell) (c : Cell) (cs : List Child) → AreBelow (length cells) cs → plain_of (cells ++ (c ∷ [])) cs ≡ plain_of cells cs
plain-stay cells c [] h = refl
plain-stay cells c (x ∷ cs) h = λ i. plain (grown-tree cells c x h.0 i) ∷ plain-stay cells c cs h.1 i

abbrev pub kids_of : List Cell → List Child → Forest
kids_of cells kids = plain_all (forest_of (trees_from [] cells) kids)

pub made_trees : (cells new : List Cell) (p number : ℕ) (under kids : List Child) (id : NodeId) → IsGrown cells p kids number new id → AreBelow (length cells) under
    → plain_of new (under ++ (Node id ∷ [])) ≡ plain_of cells under ++ (Branch p (kids_of cells kids) ∷ [])
made_trees cells new p number under kids id h b =
    let one = plain-append new under (Node id ∷ []) in
    let two : plain_of new under ≡ plain_of cells under = ap (λ l. plain_of l under) h.cells_are ∙ plain-stay cells h.cell under b in
    let three : plain (tree new (Node id)) ≡ Branch p (kids_of cells kids) = ap (λ l. plain (tree l (Node id))) h.cells_are
    ∙ ap plain (grown-new cells h.cell id h.id_is) ∙ (λ j. Branch (h.production_is j) (kids_of cells (h.children_are j))) in
    one ∙ (λ j. two j ++ (three j ∷ []))

-- what is put into the place of the handle is reduced
abbrev pub reduced : (g : Grammar) (cells new : List Cell) (stack stack' : List Child) (p number : ℕ) (m : HasMade cells stack p number new stack')
    → AreBelow (length cells) stack → (look : Option Kind) (symbols : List Symbol) → HaveRoots g (plain_of cells stack) symbols → HasMove g symbols look (Reduce p)
    → (left : ℕ) (right : List Symbol) → HasProduction g p left right → length m.kids ≡ length right → Reduces g (plain_of cells stack) look (plain_of new stack')
reduced g cells new stack stack' p number m b look symbols roots called left right production long =
    let ts = kids_of cells m.kids in
    let are : plain_of cells m.kids ≡ trees ts = plain-children (trees_from [] cells) m.kids in
    record {
      symbols = symbols;
      roots = roots;
      number = p;
      called = called;
      below = plain_of cells m.under;
      ts = ts;
      left = left;
      right = right;
      production = production;
      size = sym (ap length are) ∙ plain-length cells m.kids ∙ long;
      from_is = ap (plain_of cells) m.stack_is ∙ plain-append cells m.under m.kids ∙ ap (λ l. plain_of cells m.under ++ l) are;
      to_is = ap (plain_of new) m.stack_is' ∙ made_trees cells new p number m.under m.kids m.id m.grown (below-prefix (length cells) m.under m.kids (subst (AreBelow (length cells)) m.stack_is b));
    }

module _ (t : Sets) (stack : List Tree) (states : List ℕ) (h : HasStates t stack states) (symbols : List Symbol) (roots : HaveRoots t.grammar stack symbols)
    (left : ℕ) (right : List Symbol) (k : Handle t.grammar stack symbols left right) (n : ℕ) (at : n + length right ≡ length stack) where
  same : h.symbols ≡ k.d ++ right
  same = roots_unique t.grammar stack h.symbols symbols h.roots roots ∙ k.symbols_are

  depth : n ≡ length k.d
  depth = omega (arith, at, length-roots t.grammar stack symbols roots, ap length k.symbols_are, length-append k.d right)

  long : n + 1 ≤ length states
  long = omega (arith, depth, h.long, ap length same, length-append k.d right)

  prefix_long : length (take (n + 1) states) ≡ n + 1
  prefix_long = omega (arith, length-take (n + 1) states, long)

  -- the state below the handle
  pub state_under : IsStateOf t k.d (get_or (take (n + 1) states) (length (take (n + 1) states) - 1) 0)
  state_under =
      let top : length (take (n + 1) states) - 1 ≡ length k.d = omega (arith, prefix_long, depth) in
      let lt : length k.d < n + 1 = omega (arith, depth) in
      let is : get_or (take (n + 1) states) (length (take (n + 1) states) - 1) 0 ≡ get_or states (length k.d) 0 =
      ap (λ i. get_or (take (n + 1) states) i 0) top ∙ get_prefix (n + 1) (length k.d) states lt in
      let there : IsStateOf t (take (length k.d) h.symbols) (get_or states (length k.d) 0) = h.each (length k.d) (omega (arith, depth, long)) in
      let prefix : take (length k.d) h.symbols ≡ k.d = ap (take (length k.d)) same ∙ take_prefix k.d right in
      subst (λ s. IsStateOf t k.d s) (sym is) (subst (λ l. IsStateOf t l (get_or states (length k.d) 0)) prefix there)

  -- and with the state that goes on from it, the states above the reduced stack
  pub states_after : (stack' : List Tree) (next : ℕ) → HaveRoots t.grammar stack' (k.d ++ (Nonterminal left ∷ []))
      → IsStateOf t (k.d ++ (Nonterminal left ∷ [])) next → HasStates t stack' (take (n + 1) states ++ (next ∷ []))
  states_after stack' next roots' there =
      let prefix = take (n + 1) states in
      let whole = k.d ++ (Nonterminal left ∷ []) in
      let whole_long : length whole ≡ n + 1 = omega (arith, depth, length-append k.d (Nonterminal left ∷ [])) in
      record {
        symbols = whole;
        roots = roots';
        long = omega (arith, length-append prefix (next ∷ []), prefix_long, whole_long);
        each = λ i lt. ⊎_elim
            (λ low.
            let le : i ≤ length k.d = omega (arith, low, depth) in
            let old : IsStateOf t (take i h.symbols) (get_or states i 0) = h.each i (omega (arith, low, long)) in
            let is : take i h.symbols ≡ take i whole = ap (take i) same ∙ take-append-le i k.d right le ∙ sym (take-append-le i k.d (Nonterminal left ∷ []) le) in
            let there' : get_or (prefix ++ (next ∷ [])) i 0 ≡ get_or states i 0 = get_or_append_left prefix (next ∷ []) 0 i (omega (arith, low, prefix_long)) ∙ get_prefix (n + 1) i states low in
            subst (λ s. IsStateOf t (take i whole) s) (sym there') (subst (λ l. IsStateOf t l (get_or states i 0)) is old))
            (λ high.
            let i_is : i ≡ n + 1 = omega (arith, high, lt, length-append prefix (next ∷ []), prefix_long) in
            let all : take i whole ≡ whole = take_all i whole (omega (arith, i_is, whole_long)) in
            let is : get_or (prefix ++ (next ∷ [])) i 0 ≡ next = ap (λ j. get_or (prefix ++ (next ∷ [])) j 0)
            (let q : i ≡ length prefix = omega (arith, i_is, prefix_long) in q) ∙ get_or-append_seam prefix next [] 0 in
            subst (λ s. IsStateOf t (take i whole) s) (sym is) (subst (λ l. IsStateOf t l next) (sym all) there))
            (cases_lt i (n + 1));
      }
