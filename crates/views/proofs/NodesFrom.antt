-- The nodes of a list of trees, by its parts.
use Rattle.views.proofs.Std.{◌≡◌, ◌⊎◌, inl, inr, ◌↔◌, ◌+◌, ◌≤◌, ℕ, List, [], ◌∷◌, ◌++◌, length, refl, sym, ap, ◌∙◌, subst, arith, length-append, append-nil}
use Rattle.views.proofs.Common.{Kind, Symbol, Grammar, Tree, Forest, Leaf, Branch, HasProduction, trees, yield, yields, all_kinds, StandsIn, Top, Below, Past, place_of, Node, IsNodeOf, kinds-append, nowhere, stands_after, stands_in_prefix, stands_kinds, stands_split, IsNodeFrom}

-- the node is this branch, which begins at this place
abbrev pub IsBranchAt : Grammar → ℕ → ℕ → Forest → Node → Type 0
IsBranchAt g from p us n = (right : List Symbol) × HasProduction g p n.symbol right × (n.from ≡ from) × (n.to ≡ from + length (yields us))

-- the node is this branch, lies below it, or is one of the trees after it
abbrev pub BranchParts : Grammar → ℕ → ℕ → Forest → List Tree → Node → Type 0
BranchParts g from p us ts n = IsBranchAt g from p us n ⊎ (IsNodeFrom g from (trees us) n ⊎ IsNodeFrom g (from + length (yields us)) ts n)

-- the node is one of the first list, or of the second
abbrev pub ListParts : Grammar → ℕ → List Tree → List Tree → Node → Type 0
ListParts g from ts us n = IsNodeFrom g from ts n ⊎ IsNodeFrom g (from + length (all_kinds ts)) us n

past_leaf : (k : Kind) (ts : List Tree) {lefts : List Tree} {q : ℕ} {vs : Forest} → StandsIn (Leaf k ∷ ts) lefts (Branch q vs)
    → (rest : List Tree) × StandsIn ts rest (Branch q vs) × (lefts ≡ Leaf k ∷ rest)
past_leaf k ts (Past {lefts = rest} w) = (rest, w, refl)

abbrev Stands : ℕ → Forest → List Tree → List Tree → Tree → Type 0
Stands p us ts lefts t = ((Branch p us ≡ t) × (lefts ≡ [])) ⊎ (StandsIn (trees us) lefts t ⊎ ((rest : List Tree) × StandsIn ts rest t × (lefts ≡ Branch p us ∷ rest)))

first_branch : (p : ℕ) (us : Forest) (ts : List Tree) {lefts : List Tree} {t : Tree} → StandsIn (Branch p us ∷ ts) lefts t → Stands p us ts lefts t
first_branch p us ts Top = inl (refl, refl)
first_branch p us ts (Below w) = inr (inl w)
first_branch p us ts (Past {lefts = rest} w) = inr (inr (rest, w, refl))

same_number : (p q : ℕ) (us vs : Forest) → Branch p us ≡ Branch q vs → p ≡ q
same_number p q us vs e = cc

same_children : (p q : ℕ) (us vs : Forest) → Branch p us ≡ Branch q vs → us ≡ vs
same_children p q us vs e = cc

module _ (g : Grammar) where
  -- at 0 they are the nodes of the list
  pub nodes_from_start : (ts : List Tree) (n : Node) → IsNodeFrom g 0 ts n ↔ IsNodeOf g ts n
  nodes_from_start ts n =
      (λ h. (h.0, h.1, h.2, h.3, h.4, h.5, omega (arith, h.6), omega (arith, h.7)), λ h. (h.0, h.1, h.2, h.3, h.4, h.5, omega (arith, h.6), omega (arith, h.7)))

  -- the empty list has none
  pub nodes_from_none : (from : ℕ) (n : Node) → ¬ IsNodeFrom g from [] n
  nodes_from_none from n h = nowhere h.4 refl

  -- after a leaf they begin one place further
  pub nodes_from_leaf : (from : ℕ) (k : Kind) (ts : List Tree) (n : Node) → IsNodeFrom g from (Leaf k ∷ ts) n ↔ IsNodeFrom g (from + 1) ts n
  nodes_from_leaf from k ts n = (to, back)
    where
      to : IsNodeFrom g from (Leaf k ∷ ts) n → IsNodeFrom g (from + 1) ts n
      to h =
          let s = past_leaf k ts h.4 in
          let moved = ap place_of s.2 in
          (s.0, h.1, h.2, h.3, s.1, h.5, omega (arith, h.6, moved), omega (arith, h.7, moved))

      back : IsNodeFrom g (from + 1) ts n → IsNodeFrom g from (Leaf k ∷ ts) n
      back h = (Leaf k ∷ h.0, h.1, h.2, h.3, Past h.4, h.5, omega (arith, h.6), omega (arith, h.7))

  -- of a branch and others they are the branch, those below it, and those of the others
  pub nodes_from_branch : (from p : ℕ) (us : Forest) (ts : List Tree) (n : Node) → IsNodeFrom g from (Branch p us ∷ ts) n ↔ BranchParts g from p us ts n
  nodes_from_branch from p us ts n = (to, back)
    where
      cases : (h : IsNodeFrom g from (Branch p us ∷ ts) n) → Stands p us ts h.0 (Branch h.1 h.2) → BranchParts g from p us ts n
      cases h (inl e) =
          let place : place_of h.0 ≡ 0 = ap place_of e.1 in
          let wide = ap (λ vs. length (yields vs)) (same_children p h.1 us h.2 e.0) in
          inl (h.3, subst (λ q. HasProduction g q n.symbol h.3) (sym (same_number p h.1 us h.2 e.0)) h.5, omega (arith, h.6, place), omega (arith, h.7, place, wide))
      cases h (inr (inl w)) = inr (inl (h.0, h.1, h.2, h.3, w, h.5, h.6, h.7))
      cases h (inr (inr s)) =
          let moved : place_of h.0 ≡ length (yields us) + place_of s.0 = ap place_of s.2 ∙ length-append (yields us) (all_kinds s.0) in
          inr (inr (s.0, h.1, h.2, h.3, s.1, h.5, omega (arith, h.6, moved), omega (arith, h.7, moved)))

      to : IsNodeFrom g from (Branch p us ∷ ts) n → BranchParts g from p us ts n
      to h = cases h (first_branch p us ts h.4)

      back : BranchParts g from p us ts n → IsNodeFrom g from (Branch p us ∷ ts) n
      back (inl h) = ([], p, us, h.0, Top, h.1, omega (arith, h.2), omega (arith, h.3))
      back (inr (inl h)) = (h.0, h.1, h.2, h.3, Below h.4, h.5, h.6, h.7)
      back (inr (inr h)) =
          let moved : place_of (Branch p us ∷ h.0) ≡ length (yields us) + place_of h.0 = length-append (yields us) (all_kinds h.0) in
          (Branch p us ∷ h.0, h.1, h.2, h.3, Past h.4, h.5, omega (arith, h.6, moved), omega (arith, h.7, moved))

  -- of two lists joined they are those of the first, and those of the second after its kinds
  pub nodes_from_append : (from : ℕ) (ts us : List Tree) (n : Node) → IsNodeFrom g from (ts ++ us) n ↔ ListParts g from ts us n
  nodes_from_append from ts us n = (to, back)
    where
      after : (rest : List Tree) → place_of (ts ++ rest) ≡ length (all_kinds ts) + place_of rest
      after rest = ap length (kinds-append ts rest) ∙ length-append (all_kinds ts) (all_kinds rest)

      cases : (h : IsNodeFrom g from (ts ++ us) n) → StandsIn ts h.0 (Branch h.1 h.2) ⊎ ((rest : List Tree) × StandsIn us rest (Branch h.1 h.2) × (h.0 ≡ ts ++ rest)) → ListParts g from ts us n
      cases h (inl w) = inl (h.0, h.1, h.2, h.3, w, h.5, h.6, h.7)
      cases h (inr s) =
          let moved = ap place_of s.2 ∙ after s.0 in
          inr (s.0, h.1, h.2, h.3, s.1, h.5, omega (arith, h.6, moved), omega (arith, h.7, moved))

      to : IsNodeFrom g from (ts ++ us) n → ListParts g from ts us n
      to h = cases h (stands_split ts us h.4)

      back : ListParts g from ts us n → IsNodeFrom g from (ts ++ us) n
      back (inl h) = (h.0, h.1, h.2, h.3, stands_in_prefix us h.4, h.5, h.6, h.7)
      back (inr h) =
          let moved = after h.0 in
          (ts ++ h.0, h.1, h.2, h.3, stands_after ts h.4, h.5, omega (arith, h.6, moved), omega (arith, h.7, moved))

  -- those of the first tree, and those of the others
  pub nodes_from_first : (from : ℕ) (t : Tree) (ts : List Tree) (n : Node) → IsNodeFrom g from (t ∷ ts) n ↔ (IsNodeFrom g from (t ∷ []) n ⊎ IsNodeFrom g (from + length (yield t)) ts n)
  nodes_from_first from t ts n = subst (λ k. IsNodeFrom g from (t ∷ ts) n ↔ (IsNodeFrom g from (t ∷ []) n ⊎ IsNodeFrom g (from + length k) ts n))
      (append-nil (yield t)) (nodes_from_append from (t ∷ []) ts n)

  -- each lies within the kinds of the list
  pub nodes_from_within : (from : ℕ) (ts : List Tree) (n : Node) → IsNodeFrom g from ts n → (from ≤ n.from) × (n.from ≤ n.to) × (n.to ≤ from + length (all_kinds ts))
  nodes_from_within from ts n h =
      let s = stands_kinds h.4 in
      let long = ap length s.1 ∙ length-append (all_kinds h.0) (yields h.2 ++ s.0) in
      (omega (arith, h.6), omega (arith, h.6, h.7), omega (arith, h.7, long, length-append (yields h.2) s.0))
