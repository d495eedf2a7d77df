-- What the answers of the tables say of the test that a tree is taken over by.
use Rattle.parser.proofs.Std.{is_some, ◌^◌, min, true, false, ◌≡◌, ℕ, ◌-◌, ◌<◌, List, [], ◌∷◌, ◌++◌, length, drop, get_or, slice_get, zero, suc, Option, Some, None, refl, sym, ap, ◌∙◌, subst, arith}
use Rattle.parser.proofs.Common.{Kind, Symbol, Nonterminal, Grammar, Tree, HaveRoots, HasProduction, IsTree, AreTrees, yield, Stamped, StampedBranch, StampedForest, plain, plain_all, HasMove, HasItem}
use Rattle.parser.proofs.Common.{look_at, CanReuse, roots_unique, root_unique, production_unique, most, TableMove, plain_move, Sets, IsStateOf, IsAction, HasStates}
use Rattle.parser.proofs.Moves.{top_stands}

pub look_drop : (ks : List Kind) (i : ℕ) → slice_get ks i ≡ look_at (drop i ks) None
look_drop [] zero = refl
look_drop [] (suc i) = refl
look_drop (k ∷ ks) zero = refl
look_drop (k ∷ ks) (suc i) = look_drop ks i

-- the first of the kinds that are left
pub look_first : (ks : List Kind) (i : ℕ) (k : Kind) (rest : List Kind) → k ∷ rest ≡ drop i ks → Some k ≡ slice_get ks i
look_first ks i k rest e = ap (λ l. look_at l None) e ∙ sym (look_drop ks i)

-- the production of a branch is one of the grammar's
pub tree_production : (g : Grammar) (t : Tree) (s : Stamped) (p born : ℕ) (f : StampedForest) → t ≡ plain s → s ≡ StampedBranch p born f → (m : ℕ)
    → IsTree g t (Nonterminal m) → (right : List Symbol) × HasProduction g p m right × AreTrees g (plain_all f) right
tree_production g t s p born f e e' m h = subst (λ u. IsTree g u (Nonterminal m)) (e ∙ ap plain e') h

-- a tree's root is the left side of its production
pub tree_left : (g : Grammar) (t : Tree) (s : Stamped) (p born : ℕ) (f : StampedForest) → t ≡ plain s → s ≡ StampedBranch p born f → (m : ℕ) → IsTree g t (Nonterminal m)
    → (left : ℕ) (right : List Symbol) → HasProduction g p left right → IsTree g t (Nonterminal left)
tree_left g t s p born f e e' m h left right made =
    let k = tree_production g t s p born f e e' m h in
    subst (λ n. IsTree g t (Nonterminal n)) (production_unique g p m left k.0 right k.1 made).0 h

module _ (t : Sets) (stack : List Tree) (states : List ℕ) (h : HasStates t stack states) (u : Tree) (left : ℕ) (is : IsTree t.grammar u (Nonterminal left)) where
  -- a test that succeeds is about the stack's symbols and the tree's root
  moves_there : (rest : List Kind) (c : CanReuse t.grammar stack u rest) → HasMove t.grammar (h.symbols ++ (Nonterminal left ∷ [])) (look_at rest None) c.move
  moves_there rest c =
      let s : c.symbols ≡ h.symbols = roots_unique t.grammar stack c.symbols h.symbols c.roots h.roots in
      let n : Nonterminal c.root ≡ Nonterminal left = root_unique t.grammar u (Nonterminal c.root) (Nonterminal left) c.is is in
      subst (λ l. HasMove t.grammar l (look_at rest None) c.move) (λ i. s i ++ (n i ∷ [])) c.called

  pub no_goto : (rest : List Kind) → ((prefix : List Symbol) → IsStateOf t prefix (get_or states (length states - 1) 0) → HasItem t.grammar (prefix ++ (Nonterminal left ∷ [])) → ⊥)
      → CanReuse t.grammar stack u rest → ⊥
  no_goto rest none c = let m = moves_there rest c in none h.symbols (top_stands t stack states h) (m.item, m.valid)

  pub no_action : (rest : List Kind) (look : Option Kind) → look ≡ look_at rest None → IsAction t.grammar (h.symbols ++ (Nonterminal left ∷ [])) look None → CanReuse t.grammar stack u rest → ⊥
  no_action rest look e none c = none c.move (subst (λ l. HasMove t.grammar (h.symbols ++ (Nonterminal left ∷ [])) l c.move) (sym e) (moves_there rest c))

  pub can_reuse : (rest : List Kind) (look : Option Kind) (a : TableMove) → look ≡ look_at rest None → 0 < length (yield u)
      → IsAction t.grammar (h.symbols ++ (Nonterminal left ∷ [])) look (Some a) → CanReuse t.grammar stack u rest
  can_reuse rest look a e n k =
      record {
        root = left;
        is = is;
        not_empty = n;
        symbols = h.symbols;
        roots = h.roots;
        move = plain_move a;
        called = subst (λ l. HasMove t.grammar (h.symbols ++ (Nonterminal left ∷ [])) l (plain_move a)) e k;
      }

  -- the state after the tree, whatever the symbols are called
  pub goes : (next : ℕ) → IsStateOf t (h.symbols ++ (Nonterminal left ∷ [])) next → (symbols : List Symbol) → HaveRoots t.grammar stack symbols → IsStateOf t (symbols ++ (Nonterminal left ∷ [])) next
  goes next k symbols roots = subst (λ l. IsStateOf t (l ++ (Nonterminal left ∷ [])) next) (roots_unique t.grammar stack h.symbols symbols h.roots roots) k

pub some_is : {A : Type 0} → (o : Option A) → is_some o ≡ true → (a : A) × (o ≡ Some a)
some_is None e = absurd (cc e)
some_is (Some a) e = (a, refl)

pub none_is : {A : Type 0} → (o : Option A) → is_some o ≡ false → o ≡ None
none_is None e = refl
none_is (Some a) e = absurd (cc e)

pub counted : (n : ℕ) → n < 2 ^ 64 → min most n ≡ n
counted n h = grind (arith, h)
