-- Trees have a list of folds: those of their parts, in order.
use Rattle.views.proofs.Std.{arith, refl, sym, subst, inl, inr, ⊎_elim, ◌∙◌, ◌≡◌, ◌⊎◌, ◌↔◌, ℕ, suc, ◌+◌, ◌<◌, ◌≤◌, Bool, true, false, List, [], ◌∷◌, length, slice_index_or, slice_get, Option, Some, None, AllPairs, Contains, IsTrue, cases_lt, Contains-get_or, AllPairs-cons}
use Rattle.views.proofs.Common.{line_of, Placed, Grammar, Production, Tree, Forest, Leaf, Branch, Nil, Cons, trees, yield, yields, Node, IsBefore, SpansLines, AreFolds, span, IsNodeOf, Contains-first, Contains-later, Contains-cases, Contains-none, production_unique, IsNodeFrom}
use Rattle.views.proofs.NodesFrom.{IsBranchAt, nodes_from_start, nodes_from_none, nodes_from_leaf, nodes_from_branch, nodes_from_first}

-- pairs in order, each once: those that are such
record Joined (Is : ℕ × ℕ → Type 0) : Type 0 where
  pairs : List (ℕ × ℕ)
  ascending : AllPairs IsBefore pairs
  only : (y : ℕ × ℕ) → Contains pairs y → Is y
  all : (y : ℕ × ℕ) → Is y → Contains pairs y

IsBefore-trans : (p q r : ℕ × ℕ) → IsBefore p q → IsBefore q r → IsBefore p r
IsBefore-trans p q r (inl a) (inl b) = inl (omega arith)
IsBefore-trans p q r (inl a) (inr b) = inl (omega (arith, b.0))
IsBefore-trans p q r (inr a) (inl b) = inl (omega (arith, a.0))
IsBefore-trans p q r (inr a) (inr b) = inr (a.0 ∙ b.0, omega (arith, a.1, b.1))

which_first : (p q : ℕ × ℕ) → IsBefore p q ⊎ ((p ≡ q) ⊎ IsBefore q p)
which_first p q = go (cases_lt p.0 q.0) (cases_lt q.0 p.0) (cases_lt p.1 q.1) (cases_lt q.1 p.1)
  where
    go : (p.0 < q.0) ⊎ (q.0 ≤ p.0) → (q.0 < p.0) ⊎ (p.0 ≤ q.0) → (p.1 < q.1) ⊎ (q.1 ≤ p.1) → (q.1 < p.1) ⊎ (p.1 ≤ q.1) → IsBefore p q ⊎ ((p ≡ q) ⊎ IsBefore q p)
    go (inl a) b c d = inl (inl a)
    go (inr a) (inl b) c d = inr (inr (inl b))
    go (inr a) (inr b) (inl c) d = inl (inr (omega arith, c))
    go (inr a) (inr b) (inr c) (inl d) = inr (inr (inr (omega arith, d)))
    go (inr a) (inr b) (inr c) (inr d) =
        let first : p.0 ≡ q.0 = omega arith in
        let second : p.1 ≡ q.1 = omega arith in
        inr (inl (λ i. (first i, second i)))

before_rest : (q : ℕ × ℕ) (qs : List (ℕ × ℕ)) (y : ℕ × ℕ) → AllPairs IsBefore (q ∷ qs) → Contains qs y → IsBefore q y
before_rest q qs y all c = subst (IsBefore q) c.2 (all 0 (suc c.0) y (omega arith) (omega (arith, c.1)))

rest_ascends : (q : ℕ × ℕ) (qs : List (ℕ × ℕ)) → AllPairs IsBefore (q ∷ qs) → AllPairs IsBefore qs
rest_ascends q qs all i j d l m = all (suc i) (suc j) d (omega arith) (omega arith)

none_ascends : AllPairs IsBefore []
none_ascends i j d l m = absurd (omega (arith, m))

led : (q : ℕ × ℕ) (qs : List (ℕ × ℕ)) → ((y : ℕ × ℕ) → Contains qs y → IsBefore q y) → AllPairs IsBefore qs → AllPairs IsBefore (q ∷ qs)
led q qs first up = AllPairs-cons IsBefore q qs (λ k d l. first _ (Contains-get_or qs k d l)) up

inserted : (p : ℕ × ℕ) (qs : List (ℕ × ℕ)) → AllPairs IsBefore qs → Joined (λ y. (p ≡ y) ⊎ Contains qs y)
inserted p [] up = record {
  pairs = p ∷ [];
  ascending = led p [] (λ y c. absurd (Contains-none y c)) none_ascends;
  only = λ y c. Contains-cases p [] y c;
  all = λ y h. ⊎_elim (λ e. subst (Contains (p ∷ [])) e (Contains-first p [])) (λ c. absurd (Contains-none y c)) h;
}
inserted p (q ∷ qs) up = go (which_first p q) (inserted p qs (rest_ascends q qs up))
  where
    go : IsBefore p q ⊎ ((p ≡ q) ⊎ IsBefore q p) → Joined (λ y. (p ≡ y) ⊎ Contains qs y) → Joined (λ y. (p ≡ y) ⊎ Contains (q ∷ qs) y)
    go (inl b) r = record {
      pairs = p ∷ q ∷ qs;
      ascending = led p (q ∷ qs) (λ y c. ⊎_elim (λ e. subst (IsBefore p) e b) (λ d. IsBefore-trans p q y b (before_rest q qs y up d)) (Contains-cases q qs y c)) up;
      only = λ y c. Contains-cases p (q ∷ qs) y c;
      all = λ y h. ⊎_elim (λ e. subst (Contains (p ∷ q ∷ qs)) e (Contains-first p (q ∷ qs))) (λ c. Contains-later p (q ∷ qs) y c) h;
    }
    go (inr (inl e)) r = record { pairs = q ∷ qs; ascending = up; only = λ y c. inr c; all = λ y h. ⊎_elim (λ f. subst (Contains (q ∷ qs)) (sym e ∙ f) (Contains-first q qs)) (λ c. c) h }
    go (inr (inr b)) r = record {
      pairs = q ∷ r.pairs;
      ascending = led q r.pairs (λ y c. ⊎_elim (λ e. subst (IsBefore q) e b) (λ d. before_rest q qs y up d) (r.only y c)) r.ascending;
      only = λ y c. ⊎_elim (λ e. inr (subst (Contains (q ∷ qs)) e (Contains-first q qs))) (λ d. ⊎_elim inl (λ f. inr (Contains-later q qs y f)) (r.only y d)) (Contains-cases q r.pairs y c);
      all = λ y h.
          ⊎_elim (λ e. Contains-later q r.pairs y (r.all y (inl e)))
          (λ c. ⊎_elim (λ e. subst (Contains (q ∷ r.pairs)) e (Contains-first q r.pairs)) (λ d. Contains-later q r.pairs y (r.all y (inr d))) (Contains-cases q qs y c))
          h;
    }

joined : (ps qs : List (ℕ × ℕ)) → AllPairs IsBefore qs → Joined (λ y. Contains ps y ⊎ Contains qs y)
joined [] qs up = record { pairs = qs; ascending = up; only = λ y c. inr c; all = λ y h. ⊎_elim (λ c. absurd (Contains-none y c)) (λ c. c) h }
joined (p ∷ ps) qs up =
    let r = joined ps qs up in
    let s = inserted p r.pairs r.ascending in
    record {
      pairs = s.pairs;
      ascending = s.ascending;
      only = λ y c. ⊎_elim (λ e. inl (subst (Contains (p ∷ ps)) e (Contains-first p ps))) (λ d. ⊎_elim (λ f. inl (Contains-later p ps y f)) inr (r.only y d)) (s.only y c);
      all = λ y h. ⊎_elim (λ c. ⊎_elim (λ e. s.all y (inl e)) (λ d. s.all y (inr (r.all y (inl d)))) (Contains-cases p ps y c)) (λ c. s.all y (inr (r.all y (inr c)))) h;
    }

module _ (g : Grammar) (t : List ℕ) (tokens : List Placed) (folds : List Bool) where
  abbrev pub HaveFolds : (Node → Type 0) → Type 0
  HaveFolds Is = (pairs : List (ℕ × ℕ)) × AreFolds t tokens folds Is pairs

  folds_none : (Is : Node → Type 0) → ((n : Node) → ¬ Is n) → HaveFolds Is
  folds_none Is none = ([], record { ascending = none_ascends; only = λ p c. absurd (Contains-none p c); all = λ n p h f s. absurd (none n h) })

  folds_both : (A B Is : Node → Type 0) → ((n : Node) → Is n ↔ (A n ⊎ B n)) → HaveFolds A → HaveFolds B → HaveFolds Is
  folds_both A B Is parts a b =
      let j = joined a.0 b.0 b.1.ascending in (
        j.pairs,
        record {
          ascending = j.ascending;
          only = λ p c. ⊎_elim (λ d. let n = a.1.only p d in (n.0, (parts n.0).1 (inl n.1), n.2, n.3)) (λ d. let n = b.1.only p d in (n.0, (parts n.0).1 (inr n.1), n.2, n.3)) (j.only p c);
          all = λ n p h f s. ⊎_elim (λ i. j.all p (inl (a.1.all n p i f s))) (λ i. j.all p (inr (b.1.all n p i f s))) ((parts n).0 h);
        },
      )

  folds_same : (A Is : Node → Type 0) → ((n : Node) → Is n ↔ A n) → HaveFolds A → HaveFolds Is
  folds_same A Is same a = (a.0, record { ascending = a.1.ascending; only = λ p c. let n = a.1.only p c in (n.0, (same n.0).1 n.1, n.2, n.3); all = λ n p h f s. a.1.all n p ((same n).0 h) f s })

  -- of one node
  folds_one : (Is : Node → Type 0) (m : Node) → Is m → ((n : Node) → Is n → m ≡ n) → HaveFolds Is
  folds_one Is m it same = go (slice_index_or folds m.symbol false) refl (cases_lt m.from m.to) (cases_lt first last)
    where
      first : ℕ
      first = line_of t (span tokens m).0

      last : ℕ
      last = line_of t (span tokens m).1

      nothing : ((p : ℕ × ℕ) → IsTrue (slice_index_or folds m.symbol false) → SpansLines t tokens m p → ⊥) → HaveFolds Is
      nothing none = (
        [],
        record {
          ascending = none_ascends;
          only = λ p c. absurd (Contains-none p c);
          all =
              λ n p h f s. absurd (none p (subst (λ k. IsTrue (slice_index_or folds k.symbol false)) (sym (same n h)) f) (subst (λ k. SpansLines t tokens k p) (sym (same n h)) s));
        },
      )

      go : (b : Bool) → slice_index_or folds m.symbol false ≡ b → (m.from < m.to) ⊎ (m.to ≤ m.from) → (first < last) ⊎ (last ≤ first) → HaveFolds Is
      go false e l k = nothing (λ p f s. absurd (cc (e, f)))
      go true e (inr l) k = nothing (λ p f s. omega (arith, s.0))
      go true e (inl l) (inr k) = nothing (λ p f s. omega (arith, s.1, s.2, s.3))
      go true e (inl l) (inl k) = (
        (first, last) ∷ [],
        record {
          ascending = led (first, last) [] (λ y c. absurd (Contains-none y c)) none_ascends;
          only = λ p c. ⊎_elim (λ q. (m, it, e, subst (SpansLines t tokens m) q (l, refl, refl, k))) (λ d. absurd (Contains-none p d)) (Contains-cases (first, last) [] p c);
          all = λ n p h f s.
              let w : SpansLines t tokens m p = subst (λ k. SpansLines t tokens k p) (sym (same n h)) s in
              let is : (first, last) ≡ p = λ i. (sym w.1 i, sym w.2 i) in
              subst (Contains ((first, last) ∷ [])) is (Contains-first (first, last) []);
        },
      )

  -- of a branch itself
  folds_own : (from p : ℕ) (us : Forest) → HaveFolds (IsBranchAt g from p us)
  folds_own from p us = go (slice_get g.productions p) refl
    where
      go : (r : Option Production) → slice_get g.productions p ≡ r → HaveFolds (IsBranchAt g from p us)
      go None e = folds_none (IsBranchAt g from p us) (λ n h. absurd (cc (e, h.1)))
      go (Some r) e = folds_one (IsBranchAt g from p us) (record { symbol = r.left; from = from; to = from + length (yields us) }) (r.right, e, refl, refl)
          (λ n h. let s : r.left ≡ n.symbol = (production_unique g p r.left n.symbol r.right h.0 e h.1).0 in λ i. record { symbol = s i; from = sym h.2 i; to = sym h.3 i })

  mutual
    folds_tree : (u : Tree) (from : ℕ) → HaveFolds (IsNodeFrom g from (u ∷ []))
    folds_tree (Leaf k) from = folds_none (IsNodeFrom g from (Leaf k ∷ [])) (λ n h. nodes_from_none g (from + 1) n ((nodes_from_leaf g from k [] n).0 h))
    folds_tree (Branch p us) from =
        folds_both (IsBranchAt g from p us) (IsNodeFrom g from (trees us)) (IsNodeFrom g from (Branch p us ∷ []))
        (λ n.
        let parts = nodes_from_branch g from p us [] n in
        (λ h. ⊎_elim inl (λ r. ⊎_elim inr (λ x. absurd (nodes_from_none g (from + length (yields us)) n x)) r) (parts.0 h), λ h. parts.1 (⊎_elim inl (λ x. inr (inl x)) h)))
        (folds_own from p us)
        (folds_forest us from)

    folds_forest : (us : Forest) (from : ℕ) → HaveFolds (IsNodeFrom g from (trees us))
    folds_forest Nil from = folds_none (IsNodeFrom g from []) (nodes_from_none g from)
    folds_forest (Cons u us) from = folds_both (IsNodeFrom g from (u ∷ [])) (IsNodeFrom g (from + length (yield u)) (trees us)) (IsNodeFrom g from (u ∷ trees us))
        (nodes_from_first g from u (trees us)) (folds_tree u from) (folds_forest us (from + length (yield u)))

  folds_list : (us : List Tree) (from : ℕ) → HaveFolds (IsNodeFrom g from us)
  folds_list [] from = folds_none (IsNodeFrom g from []) (nodes_from_none g from)
  folds_list (u ∷ us) from = folds_both (IsNodeFrom g from (u ∷ [])) (IsNodeFrom g (from + length (yield u)) us) (IsNodeFrom g from (u ∷ us))
      (nodes_from_first g from u us) (folds_tree u from) (folds_list us (from + length (yield u)))

  pub folds_exist : (us : List Tree) → HaveFolds (IsNodeOf g us)
  folds_exist us = folds_same (IsNodeFrom g 0 us) (IsNodeOf g us) (λ n. let same = nodes_from_start g us n in (same.1, same.0)) (folds_list us 0)
