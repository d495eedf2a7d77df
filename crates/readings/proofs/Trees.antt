-- The trees of a document: they are trees of the grammar, and cover no more kinds than there are.
use Rattle.readings.proofs.Std.{length-take, ◌≡◌, ◌≤◌, ◌+◌, ℕ, List, [], ◌∷◌, length, take, sym, ap, subst, ◌∙◌, arith, append-nil, length-append}
use Rattle.readings.proofs.Common.{Kind, Symbol, Terminal, Nonterminal, AreDocumentTrees, Verdict, HasTree, FaultAt, FaultAtEnd, IsVerdict, Way, WayAmong, At, Down, This, Next, IsSettled, Grammar, Tree, Forest, IsTree, AreTrees, HaveRoots, all_kinds}

module _ (g : Grammar) where
  -- left siblings on a way through a tree are trees
  mutual
    lefts_are_trees : {t : Tree} {lefts : List Tree} {k : Kind} {after : List Kind} → Way t lefts k after → (s : Symbol) → IsTree g t s → (symbols : List Symbol) × HaveRoots g lefts symbols
    lefts_are_trees At s is = ([], tt)
    lefts_are_trees (Down way) (Terminal a) is = absurd is
    lefts_are_trees (Down way) (Nonterminal n) is = among_are_trees way is.0 is.2

    among_are_trees : {ts : Forest} {lefts : List Tree} {k : Kind} {after : List Kind} → WayAmong ts lefts k after → (symbols : List Symbol)
        → AreTrees g ts symbols → (roots : List Symbol) × HaveRoots g lefts roots
    among_are_trees (This way) (s ∷ symbols) are = lefts_are_trees way s are.0
    among_are_trees (Next way) (s ∷ symbols) are = let more = among_are_trees way symbols are.1 in (s ∷ more.0, (are.0, more.1))
    among_are_trees way symbols are = absurd are

  -- the trees' roots, and that they have at most n kinds
  abbrev pub AreRooted : List Tree → ℕ → Type 0
  AreRooted trees n = (symbols : List Symbol) × HaveRoots g trees symbols × (length (all_kinds trees) ≤ n)

  settled_rooted : (x : List Kind) (trees : List Tree) → IsSettled g x trees → AreRooted trees (length x)
  settled_rooted [] trees e = subst (λ ts. AreRooted ts 0) (sym e) ([], tt, omega arith)
  settled_rooted (k ∷ x) trees h =
      let roots = lefts_are_trees h.way (Nonterminal g.start) h.root in
      let long : length (k ∷ x) ≡ length (all_kinds trees) + 1 = ap length h.kinds ∙ length-append (all_kinds trees) (h.last ∷ []) in
      (roots.0, roots.1, omega (arith, long))

  pub document_rooted : (x : List Kind) (v : Verdict) (trees : List Tree) → IsVerdict g x v → AreDocumentTrees g x v trees → AreRooted trees (length x)
  document_rooted x (HasTree t) trees is are =
      let kinds : length (all_kinds (t ∷ [])) ≡ length x = ap length (append-nil _ ∙ is.kinds) in
      subst (λ ts. AreRooted ts (length x)) (sym are) (Nonterminal g.start ∷ [], (is.root, tt), omega (arith, kinds))
  document_rooted x (FaultAt k) trees is are =
      let r = settled_rooted (take k x) trees are in
      let few = r.2 in
      let kept_before = length-take k x in
      (r.0, r.1, omega (arith, few, kept_before))
  document_rooted x FaultAtEnd trees is are = settled_rooted x trees are
