-- Each node of a tree is one that the machine could take over whole: at its left siblings, goto by its root
-- leads to a set with a move on what follows it.
use Rattle.theory.proofs.Std.{◌≡◌, ℕ, List, [], ◌∷◌, ◌++◌, Option, Some, None, refl, sym, ap, ◌∙◌, subst, append_assoc, append-nil, head-eq_of_cons-eq, tail-eq_of_cons-eq}
use Rattle.theory.proofs.Common.{Kind, Token, Invalid, Symbol, Terminal, Nonterminal, Grammar, HasProduction, Tree, Forest, Leaf, Branch, Nil, Cons, IsTree, AreTrees, forest, yield, yields, HaveRoots, all_kinds, IsTreeOf, tokens, first, Here, Reaches, Move, Shift, Accept, kind_of, HasMove}
use Rattle.theory.proofs.Common.{StandsIn, Top, Below, Past}
use Rattle.theory.proofs.Common.{look_at, Run, Stay}
use Rattle.theory.proofs.Words.{words, yields-words, tokens-append}
use Rattle.theory.proofs.Simulation.{head_run, tree_run, moved_dot, look-append, see_word, look-yields, run_join, leaf_of, reach_next, roots-trees}
use Rattle.theory.proofs.StackIsRead.{yields-forest, kinds-trees, roots-forest}
use Rattle.theory.proofs.Knuth.{end_called, inside_called, end_move}
use Rattle.theory.proofs.Theorems.{accept_called}
use Rattle.theory.proofs.Stack.{nowhere}

module _ (g : Grammar) where
  abbrev pub Moves : List Symbol → Option Kind → Type 0
  Moves symbols next = (m : Move) × HasMove g symbols next m

  moves_at : (symbols : List Symbol) (one two : Option Kind) → one ≡ two → Moves symbols one → Moves symbols two
  moves_at symbols one two e m = subst (Moves symbols) e m

  mutual
    -- where trees are still to come, there is a move on their first kind, or on what follows them
    pub tree_moves : (t : Tree) (n : ℕ) → IsTree g t (Nonterminal n) → (symbols : List Symbol) (z : List ℕ) → Reaches g symbols (Some n) z → Moves symbols (look_at (yield t) (kind_of (first z)))
    tree_moves (Leaf (Token a)) n h symbols z reach = absurd h
    tree_moves (Leaf Invalid) n h symbols z reach = absurd h
    tree_moves (Branch p ts) n h symbols z reach = subst (λ l. Moves l (look_at (yields ts) (kind_of (first z)))) (append-nil symbols) (trees_move ts h.0 h.2 [] p n h.1 symbols z reach)

    pub trees_move : (ts : Forest) (ss : List Symbol) → AreTrees g ts ss → (before : List Symbol) (p n : ℕ) → HasProduction g p n (before ++ ss)
        → (d : List Symbol) (z : List ℕ) → Reaches g d (Some n) z → Moves (d ++ before) (look_at (yields ts) (kind_of (first z)))
    trees_move Nil [] h before p n is_prod d z reach = (end_move (Some p), end_called g (Some p) (Some n) d before z reach (subst (HasProduction g p n) (append-nil before) is_prod))
    trees_move (Cons t ts) (Terminal a ∷ ss) h before p n is_prod d z reach =
        subst (λ u. Moves (d ++ before) (look_at (yield u ++ yields ts) (kind_of (first z)))) (sym (leaf_of g t a h.0)) (Shift, inside_called g (Some p) (Some n) d before a ss z reach is_prod)
    trees_move (Cons t ts) (Nonterminal m ∷ ss) h before p n is_prod d z reach =
        moves_at (d ++ before) _ _ (ap (λ l. look_at (yield t) l) (look-yields g ts ss z h.1) ∙ sym (look-append (yield t) (yields ts) (kind_of (first z))))
        (tree_moves t m h.0 (d ++ before) (words ts ++ z) (reach_next g d before m ts ss p n z is_prod h.1 reach))
    trees_move ts ss h before p n is_prod d z reach = absurd h

  -- a node of trees that the machine is to read: where it comes to the node's left siblings, it has them on
  -- its stack, and could go on after the node's root with what follows the node
  pub record CanTake (stack lefts : List Tree) (p : ℕ) (us : Forest) (rest : List Kind) : Type 0 where
    pub root : ℕ
    pub is : IsTree g (Branch p us) (Nonterminal root)
    pub symbols : List Symbol
    pub roots : HaveRoots g (stack ++ lefts) symbols
    pub run : Run g (look_at (yields us ++ rest) None) stack (all_kinds lefts) (stack ++ lefts)
    pub goes_on : Moves (symbols ++ (Nonterminal root ∷ [])) (look_at rest None)

  pub record Taken (stack lefts : List Tree) (p : ℕ) (us : Forest) (whole : List Kind) : Type 0 where
    pub rest : List Kind
    pub kinds : whole ≡ all_kinds lefts ++ (yields us ++ rest)
    pub can : CanTake stack lefts p us rest

  -- among the trees of what stands after the dot of an item
  pub node_taken : {l lefts : List Tree} {t : Tree} → StandsIn l lefts t → (q : ℕ) (vs : Forest) → t ≡ Branch q vs → (ss : List Symbol) → HaveRoots g l ss
      → (before : List Symbol) (p n : ℕ) → HasProduction g p n (before ++ ss) → (d : List Symbol) (stack : List Tree) → HaveRoots g stack (d ++ before)
      → (z : List ℕ) → Reaches g d (Some n) z → Taken stack lefts q vs (all_kinds l ++ tokens z)
  node_taken Top q vs e (Terminal a ∷ ss) h before p n is_prod d stack roots z reach = absurd (subst (λ u. IsTree g u (Terminal a)) e h.0)
  node_taken (Top {t = t} {ts = l}) q vs e (Nonterminal m ∷ ss) h before p n is_prod d stack roots z reach =
      let are = roots-forest g l ss h.1 in
      let rest = all_kinds l ++ tokens z in
      let next : look_at rest None ≡ look_at (yields (forest l)) (kind_of (first z)) = look-append (all_kinds l) (tokens z) None
      ∙ ap (λ k. look_at (all_kinds l) k) (see_word z) ∙ ap (λ k. look_at k (kind_of (first z))) (sym (yields-forest l)) in
      let on = trees_move (forest l) ss are (before ++ (Nonterminal m ∷ [])) p n (subst (HasProduction g p n) (sym (append_assoc before (Nonterminal m ∷ []) ss)) is_prod) d z reach in
      record {
        rest = rest;
        kinds = append_assoc (yield t) (all_kinds l) (tokens z) ∙ ap (λ u. yield u ++ rest) e;
        can = record {
          root = m;
          is = subst (λ u. IsTree g u (Nonterminal m)) e h.0;
          symbols = d ++ before;
          roots = subst (λ k. HaveRoots g k (d ++ before)) (sym (append-nil stack)) roots;
          run = subst (λ k. Run g (look_at (yields vs ++ rest) None) stack [] k) (sym (append-nil stack)) Stay;
          goes_on = moves_at ((d ++ before) ++ (Nonterminal m ∷ [])) _ _ (sym next)
              (subst (λ k. Moves k (look_at (yields (forest l)) (kind_of (first z)))) (sym (append_assoc d before (Nonterminal m ∷ []))) on);
        };
      }
  node_taken (Below w) q vs e (Terminal a ∷ ss) h before p n is_prod d stack roots z reach = absurd h.0
  node_taken (Below {p = p'} {us = us} {ts = l} {lefts = lefts} w) q vs e (Nonterminal m ∷ ss) h before p n is_prod d stack roots z reach =
      let are = roots-forest g l ss h.1 in
      let z' = words (forest l) ++ z in
      let inner = node_taken w q vs e h.0.0 (roots-trees g us h.0.0 h.0.2) [] p' m h.0.1 (d ++ before) stack (subst (HaveRoots g stack) (sym (append-nil (d ++ before))) roots) z'
      (reach_next g d before m (forest l) ss p n z is_prod are reach) in
      let tail : tokens z' ≡ all_kinds l ++ tokens z = tokens-append (words (forest l)) z ∙ ap (λ k. k ++ tokens z) (sym (yields-words g (forest l) ss are) ∙ yields-forest l) in
      subst (Taken stack lefts q vs) (ap (λ k. k ++ tokens z') (kinds-trees us) ∙ ap (λ k. yields us ++ k) tail ∙ sym (append_assoc (yields us) (all_kinds l) (tokens z))) inner
  node_taken (Past {u = u} {ts = l} {lefts = lefts} w) q vs e (s ∷ ss) h before p n is_prod d stack roots z reach =
      let are = roots-forest g l ss h.1 in
      let inner = node_taken w q vs e ss h.1 (before ++ (s ∷ [])) p n (subst (HasProduction g p n) (sym (append_assoc before (s ∷ []) ss)) is_prod) d
      (stack ++ (u ∷ [])) (moved_dot g d before s stack u roots h.0) z reach in
      let c = inner.can in
      let joined = append_assoc stack (u ∷ []) lefts in
      let head = head_run g u (tree_run g u) s (forest l) ss before p n d stack z h.0 are is_prod roots reach in
      let next : look_at (yields (forest l)) (kind_of (first z)) ≡ look_at (all_kinds lefts) (look_at (yields vs ++ inner.rest) None) =
      ap (λ k. look_at k (kind_of (first z))) (yields-forest l) ∙ ap (λ k. look_at (all_kinds l) k) (sym (see_word z)) ∙ sym (look-append (all_kinds l) (tokens z) None)
      ∙ ap (λ k. look_at k None) inner.kinds ∙ look-append (all_kinds lefts) (yields vs ++ inner.rest) None in
      let run = run_join g (all_kinds lefts) (subst (λ k. Run g k stack (yield u) (stack ++ (u ∷ []))) next head) c.run in
      record {
        rest = inner.rest;
        kinds = append_assoc (yield u) (all_kinds l) (tokens z) ∙ ap (λ k. yield u ++ k) inner.kinds ∙ sym (append_assoc (yield u) (all_kinds lefts) (yields vs ++ inner.rest));
        can = record {
          root = c.root;
          is = c.is;
          symbols = c.symbols;
          roots = subst (λ k. HaveRoots g k c.symbols) joined c.roots;
          run = subst (λ k. Run g (look_at (yields vs ++ inner.rest) None) stack (yield u ++ all_kinds lefts) k) joined run;
          goes_on = c.goes_on;
        };
      }
  node_taken w q vs e ss h before p n is_prod d stack roots z reach = absurd h

  in_one : {l lefts : List Tree} {t : Tree} → StandsIn l lefts t → (whole : Tree) → l ≡ whole ∷ [] → (q : ℕ) (vs : Forest) → t ≡ Branch q vs
      → IsTree g whole (Nonterminal g.start) → Taken [] lefts q vs (yield whole ++ [])
  in_one (Top {t = t}) whole e q vs f h =
      let same : whole ≡ Branch q vs = sym (head-eq_of_cons-eq e) ∙ f in
      record {
        rest = [];
        kinds = ap (λ u. yield u ++ []) same;
        can = record { root = g.start; is = subst (λ u. IsTree g u (Nonterminal g.start)) same h; symbols = []; roots = tt; run = Stay; goes_on = (Accept, accept_called g) };
      }
  in_one (Below {p = p} {us = us} {lefts = lefts} w) whole e q vs f h =
      let same : Branch p us ≡ whole = head-eq_of_cons-eq e in
      let k = subst (λ u. IsTree g u (Nonterminal g.start)) (sym same) h in
      subst (Taken [] lefts q vs) (ap (λ l. l ++ []) (kinds-trees us) ∙ ap (λ u. yield u ++ []) same) (node_taken w q vs f k.0 (roots-trees g us k.0 k.2) [] p g.start k.1 [] [] tt [] Here)
  in_one (Past w) whole e q vs f h = absurd (nowhere w (tail-eq_of_cons-eq e))

  -- each node of a sentence's tree can be taken over whole
  pub sentence_node : (x : List Kind) (whole : Tree) → IsTreeOf g x whole → (lefts : List Tree) (q : ℕ) (vs : Forest) → StandsIn (whole ∷ []) lefts (Branch q vs) → Taken [] lefts q vs x
  sentence_node x whole h lefts q vs w = subst (Taken [] lefts q vs) (append-nil (yield whole) ∙ h.kinds) (in_one w whole refl q vs refl h.root)
