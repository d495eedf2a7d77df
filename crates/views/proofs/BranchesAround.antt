-- The branches of trees around an offset: the spans are those of the nodes there, and each holds the later ones.
use Rattle.views.proofs.Std.{◌≡◌, ◌⊎◌, inl, inr, ◌+◌, ◌<◌, ◌≤◌, ℕ, Bool, true, false, List, [], ◌∷◌, ◌++◌, length, refl, sym, ap, ◌∙◌, subst, cond, nat_lt, AllPairs, Contains}
use Rattle.views.proofs.Std.{arith, cases_Bool, and_parts, and_from, and_left, lt-ltb, le-ltb, ltb-true, append-nil, Contains-append_cases, Contains-append_left, Contains-append_right, AllPairs-cons}
use Rattle.views.proofs.Common.{Symbol, Terminal, Nonterminal, Grammar, Tree, Forest, Leaf, Branch, Nil, Cons, IsTree, AreTrees, HaveRoots, trees, yield, yields, all_kinds, Node, Contains-first, Contains-later, Contains-cases, Contains-none}
use Rattle.views.proofs.Common.{kinds-trees, IsNodeFrom, is_around, spans_of, spans_in, spans_all, Holds}
use Rattle.views.proofs.NodesFrom.{nodes_from_none, nodes_from_leaf, nodes_from_branch, nodes_from_append, nodes_from_within, BranchParts, ListParts}
use Rattle.views.proofs.Nested.{All-each, AllPairs-none, AllPairs-one}

-- below a branch stands a list of trees
pub spans_trees : (reached first from : ℕ) (us : Forest) → spans_in reached first from us ≡ spans_all reached first from (trees us)
spans_trees reached first from Nil = refl
spans_trees reached first from (Cons t us) = ap (λ ss. spans_of reached first from t ++ ss) (spans_trees reached first (from + length (yield t)) us)

-- none stands around the offset after the last token that starts at or before it
module _ (reached first : ℕ) where
  none_of : (from : ℕ) (t : Tree) → reached ≤ from → spans_of reached first from t ≡ []
  none_of from (Leaf k) l = refl
  none_of from (Branch p us) l = rw (and_left (nat_lt from reached) (nat_lt first (from + length (yields us))) (le-ltb _ _ l)) refl

  none_all : (from : ℕ) (ts : List Tree) → reached ≤ from → spans_all reached first from ts ≡ []
  none_all from [] l = refl
  none_all from (t ∷ ts) l = λ i. none_of from t l i ++ none_all (from + length (yield t)) ts (omega arith) i

  -- a branch that stands around the offset, and others
  pub around_span : (from p : ℕ) (us : Forest) → is_around reached first from (from + length (yields us)) ≡ true
      → spans_of reached first from (Branch p us) ≡ (from, from + length (yields us)) ∷ spans_in reached first from us
  around_span from p us e = rw e refl

  pub around_none : (from : ℕ) (t : Tree) → is_around reached first from (from + length (yield t)) ≡ false → spans_of reached first from t ≡ []
  around_none from (Leaf k) e = refl
  around_none from (Branch p us) e = rw e refl

  -- where a tree stands around the offset, none after it does
  pub only_first : reached ≤ first + 1 → (from : ℕ) (t : Tree) (ts : List Tree) → is_around reached first from (from + length (yield t)) ≡ true
      → spans_all reached first from (t ∷ ts) ≡ spans_of reached first from t
  only_first near from t ts e =
      let ends : first < from + length (yield t) = ltb-true first (from + length (yield t)) (and_parts (nat_lt from reached) (nat_lt first (from + length (yield t))) e).1 in
      ap (λ ss. spans_of reached first from t ++ ss) (none_all (from + length (yield t)) ts (omega arith)) ∙ append-nil (spans_of reached first from t)

-- what a span of a grammar's trees stands for: a node that stands around the offset
abbrev pub IsSpanFrom : Grammar → ℕ → ℕ → ℕ → List Tree → ℕ × ℕ → Type 0
IsSpanFrom g reached first from ts s = (n : Node) × IsNodeFrom g from ts n × (n.from ≡ s.0) × (n.to ≡ s.1) × (n.from < reached) × (first < n.to)

module _ (g : Grammar) (reached first : ℕ) where
  abbrev IsSpan : ℕ → List Tree → ℕ × ℕ → Type 0
  IsSpan = IsSpanFrom g reached first

  alone : (from : ℕ) (t : Tree) → from + length (all_kinds (t ∷ [])) ≡ from + length (yield t)
  alone from t = ap (λ ks. from + length ks) (append-nil (yield t))

  -- of the first tree, or of the others
  joined : (from : ℕ) (t : Tree) (ts : List Tree) (s : ℕ × ℕ) → IsSpan from (t ∷ []) s ⊎ IsSpan (from + length (yield t)) ts s → IsSpan from (t ∷ ts) s
  joined from t ts s (inl h) = (h.0, (nodes_from_append g from (t ∷ []) ts h.0).1 (inl h.1), h.2, h.3, h.4, h.5)
  joined from t ts s (inr h) = (h.0, (nodes_from_append g from (t ∷ []) ts h.0).1 (inr (subst (λ k. IsNodeFrom g k ts h.0) (sym (alone from t)) h.1)), h.2, h.3, h.4, h.5)

  either : (from : ℕ) (t : Tree) (ts : List Tree) (ss rs : List (ℕ × ℕ)) (s : ℕ × ℕ) → (Contains ss s → IsSpan from (t ∷ []) s)
      → (Contains rs s → IsSpan (from + length (yield t)) ts s) → Contains ss s ⊎ Contains rs s → IsSpan from (t ∷ ts) s
  either from t ts ss rs s one two (inl d) = joined from t ts s (inl (one d))
  either from t ts ss rs s one two (inr d) = joined from t ts s (inr (two d))

  mutual
    span_of : (from : ℕ) (t : Tree) (symbol : Symbol) (s : ℕ × ℕ) → IsTree g t symbol → Contains (spans_of reached first from t) s → IsSpan from (t ∷ []) s
    span_of from (Leaf k) symbol s h c = absurd (Contains-none s c)
    span_of from (Branch p us) (Terminal b) s h c = absurd h
    span_of from (Branch p us) (Nonterminal n) s h c = go (is_around reached first from (from + length (yields us))) refl c (λ d. span_in from us h.0 s h.2 d)
      where
        to : ℕ
        to = from + length (yields us)

        here : Node
        here = record { symbol = n; from = from; to = to }

        cases : is_around reached first from to ≡ true → (Contains (spans_in reached first from us) s → IsSpan from (trees us) s)
            → ((from, to) ≡ s) ⊎ Contains (spans_in reached first from us) s → IsSpan from (Branch p us ∷ []) s
        cases e below (inl f) =
            let parts = and_parts _ _ e in
            (here, (nodes_from_branch g from p us [] here).1 (inl (h.0, h.1, refl, refl)), ap (λ (x : ℕ × ℕ). x.0) f, ap (λ (x : ℕ × ℕ). x.1) f, ltb-true _ _ parts.0, ltb-true _ _ parts.1)
        cases e below (inr d) =
            let b = below d in
            (b.0, (nodes_from_branch g from p us [] b.0).1 (inr (inl b.1)), b.2, b.3, b.4, b.5)

        go : (b : Bool) → is_around reached first from to ≡ b → Contains (cond b ((from, to) ∷ spans_in reached first from us) []) s
            → (Contains (spans_in reached first from us) s → IsSpan from (trees us) s) → IsSpan from (Branch p us ∷ []) s
        go true e d below = cases e below (Contains-cases (from, to) (spans_in reached first from us) s d)
        go false e d below = absurd (Contains-none s d)

    span_in : (from : ℕ) (us : Forest) (symbols : List Symbol) (s : ℕ × ℕ) → AreTrees g us symbols → Contains (spans_in reached first from us) s → IsSpan from (trees us) s
    span_in from Nil symbols s h c = absurd (Contains-none s c)
    span_in from (Cons t us) [] s h c = absurd h
    span_in from (Cons t us) (x ∷ xs) s h c =
        either from t (trees us) (spans_of reached first from t) (spans_in reached first (from + length (yield t)) us) s
        (λ d. span_of from t x s h.0 d) (λ d. span_in (from + length (yield t)) us xs s h.1 d)
        (Contains-append_cases (spans_of reached first from t) (spans_in reached first (from + length (yield t)) us) s c)

  -- each span is that of a node
  pub span_all : (from : ℕ) (ts : List Tree) (symbols : List Symbol) (s : ℕ × ℕ) → HaveRoots g ts symbols → Contains (spans_all reached first from ts) s → IsSpan from ts s
  span_all from [] symbols s h c = absurd (Contains-none s c)
  span_all from (t ∷ ts) [] s h c = absurd h
  span_all from (t ∷ ts) (x ∷ xs) s h c =
      either from t ts (spans_of reached first from t) (spans_all reached first (from + length (yield t)) ts) s (λ d. span_of from t x s h.0 d) (λ d. span_all (from + length (yield t)) ts xs s h.1 d)
      (Contains-append_cases (spans_of reached first from t) (spans_all reached first (from + length (yield t)) ts) s c)

  -- each node around the offset has its span there
  abbrev Shown : List (ℕ × ℕ) → Node → Type 0
  Shown ss n = n.from < reached → first < n.to → Contains ss (n.from, n.to)

  parted : (from : ℕ) (t : Tree) (ts : List Tree) (ss rs : List (ℕ × ℕ)) (n : Node) → (IsNodeFrom g from (t ∷ []) n → Contains ss (n.from, n.to))
      → (IsNodeFrom g (from + length (yield t)) ts n → Contains rs (n.from, n.to)) → ListParts g from (t ∷ []) ts n → Contains (ss ++ rs) (n.from, n.to)
  parted from t ts ss rs n one two (inl w) = Contains-append_left ss rs (n.from, n.to) (one w)
  parted from t ts ss rs n one two (inr w) = Contains-append_right ss rs (n.from, n.to) (two (subst (λ k. IsNodeFrom g k ts n) (alone from t) w))

  mutual
    node_of : (from : ℕ) (t : Tree) (n : Node) → IsNodeFrom g from (t ∷ []) n → Shown (spans_of reached first from t) n
    node_of from (Leaf k) n h a b = absurd (nodes_from_none g (from + 1) n ((nodes_from_leaf g from k [] n).0 h))
    node_of from (Branch p us) n h a b = go (λ w. node_in from us n w a b) ((nodes_from_branch g from p us [] n).0 h)
      where
        to : ℕ
        to = from + length (yields us)

        within : (from ≤ n.from) × (n.from ≤ n.to) × (n.to ≤ from + length (all_kinds (Branch p us ∷ [])))
        within = nodes_from_within g from (Branch p us ∷ []) n h

        ends : from + length (all_kinds (Branch p us ∷ [])) ≡ to
        ends = alone from (Branch p us)

        here : spans_of reached first from (Branch p us) ≡ (from, to) ∷ spans_in reached first from us
        here = around_span reached first from p us (and_from (nat_lt from reached) (nat_lt first to) (lt-ltb from reached (omega (arith, within.0))) (lt-ltb first to (omega (arith, within.2, ends))))

        go : (IsNodeFrom g from (trees us) n → Contains (spans_in reached first from us) (n.from, n.to)) → BranchParts g from p us [] n
            → Contains (spans_of reached first from (Branch p us)) (n.from, n.to)
        go below (inl e) =
            let same : (from, to) ≡ (n.from, n.to) = λ i. (sym e.2 i, sym e.3 i) in
            subst (λ ss. Contains ss (n.from, n.to)) (sym here)
            (subst (λ s. Contains ((from, to) ∷ spans_in reached first from us) s) same (Contains-first (from, to) (spans_in reached first from us)))
        go below (inr (inl w)) = subst (λ ss. Contains ss (n.from, n.to)) (sym here) (Contains-later (from, to) (spans_in reached first from us) (n.from, n.to) (below w))
        go below (inr (inr w)) = absurd (nodes_from_none g to n w)

    node_in : (from : ℕ) (us : Forest) (n : Node) → IsNodeFrom g from (trees us) n → Shown (spans_in reached first from us) n
    node_in from Nil n h a b = absurd (nodes_from_none g from n h)
    node_in from (Cons t us) n h a b =
        parted from t (trees us) (spans_of reached first from t) (spans_in reached first (from + length (yield t)) us) n
        (λ w. node_of from t n w a b) (λ w. node_in (from + length (yield t)) us n w a b)
        ((nodes_from_append g from (t ∷ []) (trees us) n).0 h)

  pub node_all : (from : ℕ) (ts : List Tree) (n : Node) → IsNodeFrom g from ts n → Shown (spans_all reached first from ts) n
  node_all from [] n h a b = absurd (nodes_from_none g from n h)
  node_all from (t ∷ ts) n h a b =
      parted from t ts (spans_of reached first from t) (spans_all reached first (from + length (yield t)) ts) n (λ w. node_of from t n w a b) (λ w. node_all (from + length (yield t)) ts n w a b)
      ((nodes_from_append g from (t ∷ []) ts n).0 h)

  -- each span holds the later ones
  module _ (near : reached ≤ first + 1) where
    one_empty : (from : ℕ) (t : Tree) (ts : List Tree) → (spans_of reached first from t ≡ []) ⊎ (spans_all reached first (from + length (yield t)) ts ≡ [])
    one_empty from t ts = elim (cases_Bool (is_around reached first from (from + length (yield t)))) [
      | inl e ↦ let ends : first < from + length (yield t) = ltb-true first (from + length (yield t)) (and_parts (nat_lt from reached) (nat_lt first (from + length (yield t))) e).1 in
          inr (none_all reached first (from + length (yield t)) ts (omega arith))
      | inr e ↦ inl (around_none reached first from t e)
    ]

    mutual
      nested_of : (from : ℕ) (t : Tree) (symbol : Symbol) → IsTree g t symbol → AllPairs Holds (spans_of reached first from t)
      nested_of from (Leaf k) symbol h = AllPairs-none Holds
      nested_of from (Branch p us) (Terminal b) h = absurd h
      nested_of from (Branch p us) (Nonterminal n) h = go (nested_in from us h.0 h.2) (is_around reached first from (from + length (yields us)))
        where
          to : ℕ
          to = from + length (yields us)

          ends : length (all_kinds (trees us)) ≡ length (yields us)
          ends = ap length (kinds-trees us)

          below : (s : ℕ × ℕ) → Contains (spans_in reached first from us) s → Holds (from, to) s
          below s c =
              let b = span_in from us h.0 s h.2 c in
              let within = nodes_from_within g from (trees us) b.0 b.1 in
              (omega (arith, within.0, b.2), omega (arith, within.2, b.3, ends))

          go : AllPairs Holds (spans_in reached first from us) → (b : Bool) → AllPairs Holds (cond b ((from, to) ∷ spans_in reached first from us) [])
          go later true = AllPairs-cons Holds (from, to) (spans_in reached first from us) (All-each (Holds (from, to)) (spans_in reached first from us) below) later
          go later false = AllPairs-none Holds

      nested_in : (from : ℕ) (us : Forest) (symbols : List Symbol) → AreTrees g us symbols → AllPairs Holds (spans_in reached first from us)
      nested_in from Nil symbols h = AllPairs-none Holds
      nested_in from (Cons t us) [] h = absurd h
      nested_in from (Cons t us) (x ∷ xs) h =
          let other = subst (λ ss. (spans_of reached first from t ≡ []) ⊎ (ss ≡ [])) (sym (spans_trees reached first (from + length (yield t)) us)) (one_empty from t (trees us)) in
          AllPairs-one Holds (spans_of reached first from t) (spans_in reached first (from + length (yield t)) us) (nested_of from t x h.0) (nested_in (from + length (yield t)) us xs h.1) other

    pub nested_all : (from : ℕ) (ts : List Tree) (symbols : List Symbol) → HaveRoots g ts symbols → AllPairs Holds (spans_all reached first from ts)
    nested_all from [] symbols h = AllPairs-none Holds
    nested_all from (t ∷ ts) [] h = absurd h
    nested_all from (t ∷ ts) (x ∷ xs) h = AllPairs-one Holds (spans_of reached first from t) (spans_all reached first (from + length (yield t)) ts)
        (nested_of from t x h.0) (nested_all (from + length (yield t)) ts xs h.1) (one_empty from t ts)
