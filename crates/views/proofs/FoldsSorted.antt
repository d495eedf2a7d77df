-- The lines that were gathered, sorted and each once, are the folds.
use Rattle.views.proofs.Std.{IsEquivalence, IsTotalOrder, both_tied, unsigned_tied, dedup, IsPermutation, IsSorted, IsStrictlySortedBy, Ordering, Less, Equal, Greater, nat_cmp, ordering_then, eq_by_cmp, refl, sym, subst, inl, inr, ℕ, Bool, true, false, List, length, AllPairs, Contains, nat_eq}
use Rattle.views.proofs.Std.{◌≡◌, ◌≤◌, ◌&&◌}
use Rattle.views.proofs.Std.{eqb-true, on_total, then_total, nat_cmp_total, and_equiv, on_equiv, ranked, Contains-dedup, Contains-from_dedup, IsStrictlySortedBy-dedup, Contains-permutation, IsPermutation-sym, Less-from_sorted, arith}
use Rattle.views.proofs.Common.{kinds, Tree, all_kinds, Node, IsBefore, IsNodeOf, FileGrammar, lines_of, AreSpanned, AreFoldsOf, placed_parts, PlainToken as Token}
use Rattle.std.proofs.lemmas.Cmp.{nat_eq_equiv}
use Rattle.views.proofs.LinesOfTokens.{length-significant, spans_lines}
use Rattle.views.proofs.NodesFrom.{nodes_from_start, nodes_from_within}

-- by the first, then by the second
abbrev pub pair_cmp : ℕ × ℕ → ℕ × ℕ → Ordering
pair_cmp p q = ordering_then (nat_cmp p.0 q.0) (nat_cmp p.1 q.1)

abbrev pub pair_eq : ℕ × ℕ → ℕ × ℕ → Bool
pair_eq p q = nat_eq p.0 q.0 && nat_eq p.1 q.1

pairs_total : IsTotalOrder pair_cmp
pairs_total = then_total (on_total (λ p. p.0) nat_cmp_total) (on_total (λ p. p.1) nat_cmp_total)

pairs_tied : (p q : ℕ × ℕ) → pair_eq p q ≡ eq_by_cmp pair_cmp p q
pairs_tied p q = both_tied _ _ (nat_cmp p.0 q.0) (nat_cmp p.1 q.1) (sym (unsigned_tied p.0 q.0)) (sym (unsigned_tied p.1 q.1))

pairs_equal : IsEquivalence pair_eq
pairs_equal = and_equiv (on_equiv (λ p. p.0) nat_eq_equiv) (on_equiv (λ p. p.1) nat_eq_equiv)

same_pair : (p q : ℕ × ℕ) → pair_eq p q ≡ true → p ≡ q
same_pair p q e = go (nat_eq p.0 q.0) refl (nat_eq p.1 q.1) refl e
  where
    go : (a : Bool) → nat_eq p.0 q.0 ≡ a → (b : Bool) → nat_eq p.1 q.1 ≡ b → (a && b) ≡ true → p ≡ q
    go true x true y h =
        let first = eqb-true p.0 q.0 x in
        let second = eqb-true p.1 q.1 y in
        λ i. (first i, second i)
    go true x false y h = cc h
    go false x b y h = cc h

less_before : (p q : ℕ × ℕ) → pair_cmp p q ≡ Less → IsBefore p q
less_before p q e = go (nat_cmp p.0 q.0) refl (nat_cmp p.1 q.1) refl e
  where
    go : (a : Ordering) → a ≡ nat_cmp p.0 q.0 → (b : Ordering) → b ≡ nat_cmp p.1 q.1 → ordering_then a b ≡ Less → IsBefore p q
    go Less x b y h = inl (ranked p.0 q.0 Less x)
    go Equal x Less y h = inr (ranked p.0 q.0 Equal x, ranked p.1 q.1 Less y)
    go Equal x Equal y h = cc h
    go Equal x Greater y h = cc h
    go Greater x b y h = cc h

ascending : (ps : List (ℕ × ℕ)) → IsStrictlySortedBy pair_cmp ps → AllPairs IsBefore ps
ascending ps s i j d l m = less_before _ _ (Less-from_sorted pair_cmp ps i j d s l m)

module _ (f : FileGrammar) (t : List ℕ) (tokens : List Token) (trees : List Tree) (raw sorted reported : List (ℕ × ℕ))
    (foldable_lines : AreSpanned f.grammar f.folds (lines_of t (placed_parts f tokens)) trees raw) (covered : length (all_kinds trees) ≤ length (kinds f.skips tokens))
    (moved : IsPermutation raw sorted) (is : reported ≡ dedup pair_eq sorted) where
  within : (n : Node) → IsNodeOf f.grammar trees n → n.to ≤ length (placed_parts f tokens)
  within n h =
      let w = nodes_from_within f.grammar 0 trees n ((nodes_from_start f.grammar trees n).1 h) in
      omega (arith, w.2, covered, length-significant f.skips 0 tokens)

  kept : (p : ℕ × ℕ) → Contains raw p → Contains reported p
  kept p c = subst (λ ps. Contains ps p) (sym is) (Contains-dedup pairs_equal same_pair sorted p (Contains-permutation raw sorted p moved c))

  from_raw : (p : ℕ × ℕ) → Contains reported p → Contains raw p
  from_raw p c = Contains-permutation sorted raw p (IsPermutation-sym raw sorted moved) (Contains-from_dedup pair_eq sorted p (subst (λ ps. Contains ps p) is c))

  pub shown_are_folds : IsSorted pair_cmp sorted → AreFoldsOf f t tokens trees reported
  shown_are_folds s = record {
    ascending = subst (AllPairs IsBefore) (sym is) (ascending (dedup pair_eq sorted) (IsStrictlySortedBy-dedup pairs_total pairs_tied sorted s));
    only = λ p c.
        let n = foldable_lines.only p (from_raw p c) in
        (n.0, n.1, n.2.0, (spans_lines t (placed_parts f tokens) n.0 p (within n.0 n.1)).0 n.2.1);
    all = λ n p h folds spans. kept p (foldable_lines.all n p h (folds, (spans_lines t (placed_parts f tokens) n p (within n h)).1 spans));
  }
