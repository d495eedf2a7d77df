-- What marks at nonterminals mean.
use Rattle.grammar.proofs.Std.{◌≡◌, ◌≢◌, ℕ, ◌+◌, ◌<◌, Bool, true, false, ◌&&◌, List, [], ◌∷◌, ◌++◌, refl, ap, sym, ◌∙◌, length, take, get_or, set, arith, subst, inl, inr, ◌⊎◌, not, slice_get, slice_index_or, sum_by, take_more, get_or-set_other, sum_by-set, nat_tests, and_parts}
use Rattle.grammar.proofs.Common.{Token, Invalid, Symbol, Terminal, Nonterminal, Grammar, Tree, Forest, Leaf, Branch, Nil, Cons, IsTree, AreTrees, IsProductive, Production' as Production}
use Rattle.grammar.proofs.Common.{is_marked, are_marked, is_ready, IsClosed, IsNext, AreBelow, AreSound, AreComplete, IsFirstUnmarked, IsUnproductiveIn, push_at}

-- how many have no mark
abbrev pub weight : Bool → ℕ
weight true = 0
weight false = 1

abbrev pub unmarked : List Bool → ℕ
unmarked marks = sum_by weight marks

-- a forest over productive symbols
forest_over : (ps : List Production) (marks : List Bool) (g : Grammar) (right : List Symbol) → AreSound ps marks
    → g.productions ≡ ps → are_marked marks right ≡ true → (ts : Forest) × AreTrees g ts right
forest_over ps marks g [] sound same marked = (Nil, tt)
forest_over ps marks g (Terminal k ∷ right) sound same marked =
    let rest = forest_over ps marks g right sound same marked in
    (Cons (Leaf (Token k)) rest.0, (refl, rest.1))
forest_over ps marks g (Nonterminal n ∷ right) sound same marked =
    let rest = forest_over ps marks g right sound same (and_parts (slice_index_or marks n false) (are_marked marks right) marked).1 in
    let first = sound g n same (and_parts (slice_index_or marks n false) (are_marked marks right) marked).0 in
    (Cons first.0 rest.0, (first.1, rest.1))

-- a nonterminal with a production over marked symbols is productive
pub next_productive : (ps : List Production) (marks : List Bool) (n : ℕ) (g : Grammar) → AreSound ps marks → IsNext ps marks n → g.productions ≡ ps → IsProductive g (Nonterminal n)
next_productive ps marks n g sound next same =
    let ts = forest_over ps marks g next.production.right sound same next.marked in
    let P : ℕ → Type 0 = λ m. IsProductive g (Nonterminal m) in
    subst P next.left_is (Branch next.number ts.0, (next.production.right, ap (λ (qs : List Production). slice_get qs next.number) same ∙ next.there, ts.1))

mutual
  tree_marked : (ps : List Production) (marks : List Bool) (g : Grammar) → IsClosed ps marks → g.productions ≡ ps → (t : Tree) (s : Symbol) → IsTree g t s → is_marked marks s ≡ true
  tree_marked ps marks g closed same (Leaf k) (Terminal b) is = refl
  tree_marked ps marks g closed same (Leaf (Token a)) (Nonterminal n) is = absurd is
  tree_marked ps marks g closed same (Leaf Invalid) (Nonterminal n) is = absurd is
  tree_marked ps marks g closed same (Branch p ts) (Terminal b) is = refl
  tree_marked ps marks g closed same (Branch p ts) (Nonterminal n) (right, has, are) =
      closed p (record { left = n; right = right }) (ap (λ (qs : List Production). slice_get qs p) (sym same) ∙ has) (forest_marked ps marks g closed same ts right are)

  forest_marked : (ps : List Production) (marks : List Bool) (g : Grammar) → IsClosed ps marks → g.productions ≡ ps → (ts : Forest) (ss : List Symbol) → AreTrees g ts ss → are_marked marks ss ≡ true
  forest_marked ps marks g closed same Nil [] are = refl
  forest_marked ps marks g closed same (Cons t ts) (s ∷ ss) (one, more) =
      ap (λ b. b && are_marked marks ss) (tree_marked ps marks g closed same t s one) ∙ forest_marked ps marks g closed same ts ss more
  forest_marked ps marks g closed same ts ss are = absurd are

-- closed marks are complete
pub complete : (ps : List Production) (marks : List Bool) → IsClosed ps marks → AreComplete ps marks
complete ps marks closed g n same (t, is) = tree_marked ps marks g closed same t (Nonterminal n) is

-- one mark more leaves fewer without
pub fewer_unmarked : (marks : List Bool) (n : ℕ) → n < length marks → get_or marks n false ≡ false → unmarked (set marks n true) < unmarked marks
fewer_unmarked marks n within is =
    let e : unmarked (set marks n true) + weight (get_or marks n false) ≡ unmarked marks + weight true = sum_by-set weight marks n true false within in
    let one : weight (get_or marks n false) ≡ 1 = ap weight is in
    omega arith

pub same_or_not : (a b : ℕ) → (a ≡ b) ⊎ (a ≢ b)
same_or_not a b = grind (arith, nat_tests)

-- and what is marked then is sound
pub sound_more : (ps : List Production) (marks : List Bool) (n : ℕ) → n < length marks → AreSound ps marks → IsNext ps marks n → AreSound ps (set marks n true)
sound_more ps marks n within sound next g m same marked =
    elim (same_or_not m n) [
      | inl e ↦ (let P : ℕ → Type 0 = λ k. IsProductive g (Nonterminal k) in subst P (sym e) (next_productive ps marks n g sound next same))
      | inr other ↦ sound g m same (sym (get_or-set_other marks n m true false other) ∙ marked)
    ]

not_ready : (a b : Bool) → (a && not b) ≡ false → a ≡ true → b ≡ true
not_ready true true unready both = refl
not_ready true false unready both = absurd (cc)
not_ready false b unready both = absurd (cc)

pub closed_more : (ps : List Production) (marks : List Bool) (i : ℕ) (x : Production) → i < length ps → x ≡ get_or ps i x
    → IsClosed (take i ps) marks → is_ready marks x ≡ false → IsClosed (take (i + 1) ps) marks
closed_more ps marks i x within is before unready =
    let e : take (i + 1) ps ≡ take i ps ++ x ∷ [] = take_more ps i x within ∙ ap (λ y. take i ps ++ y ∷ []) (sym is) in
    subst (λ (qs : List Production). IsClosed qs marks) (sym e)
    (push_at (λ p y. are_marked marks y.right ≡ true → slice_index_or marks y.left false ≡ true) (take i ps) x before
    (not_ready (are_marked marks x.right) (slice_index_or marks x.left false) unready))

pub next_within : (ps : List Production) (marks : List Bool) (n count : ℕ) → AreBelow ps count → IsNext ps marks n → n < count
next_within ps marks n count below next = let P : ℕ → Type 0 = λ k. k < count in subst P next.left_is (below next.number next.production next.there)

true_is_not_false : {P : Type 0} (b : Bool) → b ≡ true → b ≡ false → P
true_is_not_false b marked unmarked = absurd (cc)

pub first_unproductive : (ps : List Production) (marks : List Bool) (n : ℕ) → AreSound ps marks → AreComplete ps marks → IsFirstUnmarked marks n → IsUnproductiveIn ps n
first_unproductive ps marks n sound all first = record {
  unproductive = λ g same is. true_is_not_false (slice_index_or marks n false) (all g n same is) first.unmarked;
  before = λ g m same less. sound g m same (first.before m less);
}
