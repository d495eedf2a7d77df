-- A grammar with one sentence, of one kind: what is expected, and the verdicts.
use Rattle.std.specs.Prelude.{◌≡◌, ◌⊎◌, Option, None, ℕ, zero, suc, ◌+◌, List, [], ◌∷◌, length, take, true, false, Some, Contains, ◌++◌, refl}
use Rattle.std.proofs.Common.{inl, inr, arith, sym, ap, subst, ◌∙◌}
use mathlib.Core.List.{head-eq_of_cons-eq}
use Rattle.definitions.proofs.Ordered.{Contains-first, Contains-none, Contains-cases}
use Rattle.definitions.specs.declared.Kind.TheVariants.{Invalid, Rule as Token}
use Rattle.definitions.specs.declared.Kind.{Kind}
use Rattle.definitions.specs.declared.Symbol.TheVariants.{Rule as Terminal}
use Rattle.definitions.specs.declared.Symbol.{Symbol}
use Rattle.definitions.specs.Sentences.{IsSentence, IsViable, FaultAt, FaultAtEnd, IsVerdict, IsExpected}
use Rattle.definitions.specs.Trees.{Grammar, Production, HasProduction, Forest, Leaf, Branch, Nil, Cons, AreTrees, yield}

-- S = NUM
abbrev alone : Grammar
alone = record { start = 0; rules = 1; productions = record { left = 0; right = Terminal 0 ∷ [] } ∷ [] }

number : IsSentence alone (Token 0 ∷ [])
number = (Branch 0 (Cons (Leaf (Token 0)) Nil), record { root = (_, refl, (refl, tt)); kinds = refl })

one_leaf : (ts : Forest) → AreTrees alone ts (Terminal 0 ∷ []) → yield (Branch 0 ts) ≡ Token 0 ∷ []
one_leaf Nil h = absurd h
one_leaf (Cons (Leaf (Token a)) Nil) h = ap (λ b. Token b ∷ []) h.0
one_leaf (Cons (Leaf (Token a)) (Cons t ts)) h = absurd h.1
one_leaf ts h = absurd h.0

right_of : Option Production → List Symbol
right_of None = []
right_of (Some p) = p.right

only_right : (p n : ℕ) (right : List Symbol) → HasProduction alone p n right → right ≡ Terminal 0 ∷ []
unfolding right_of
only_right zero n right h = sym (ap right_of h)
only_right (suc p) n right h = absurd (cc h)

only_number : (x : List Kind) → IsSentence alone x → x ≡ Token 0 ∷ []
only_number x (Leaf (Token a), h) = absurd h.root
only_number x (Leaf Invalid, h) = absurd h.root
only_number x (Branch p ts, h) = sym h.kinds ∙ one_leaf ts (subst (AreTrees alone ts) (only_right p 0 h.root.0 h.root.1) h.root.2)

-- with the second kind no sentence goes on
too_long : (a b : Kind) (x : List Kind) → ¬ IsViable alone (a ∷ b ∷ x)
too_long a b x v =
    let long : suc (suc (length (x ++ v.0))) ≡ 1 = ap length (only_number (a ∷ b ∷ (x ++ v.0)) v.1) in
    omega (arith, long)

first_kind : (a : ℕ) → IsViable alone (Token a ∷ []) → 0 ≡ a
first_kind a v =
    let same : Token a ≡ Token 0 = head-eq_of_cons-eq (only_number (Token a ∷ v.0) v.1) in
    cc same

-- the empty text: a number, and not the end
at_start : IsExpected alone [] (0 ∷ []) false
at_start = record {
  in_order = λ k l. absurd (omega (arith, l));
  each = λ a. ((λ c. subst (λ n. IsViable alone (Token n ∷ [])) (first a (Contains-cases 0 [] a c)) ([], number)), (λ v. subst (λ n. Contains (0 ∷ []) n) (first_kind a v) (Contains-first 0 [])));
  ends = ((λ e. absurd (cc e)), (λ s. absurd (let long : 0 ≡ 1 = ap length (only_number [] s) in omega (arith, long))));
}
  where
    first : (a : ℕ) → (0 ≡ a) ⊎ Contains [] a → 0 ≡ a
    first a (inl e) = e
    first a (inr c) = absurd (Contains-none a c)

-- after it: the end alone
after_number : IsExpected alone (Token 0 ∷ []) [] true
after_number = record {
  in_order = λ k l. absurd (omega (arith, l));
  each = λ a. ((λ c. absurd (Contains-none a c)), (λ v. absurd (too_long (Token 0) (Token a) [] v)));
  ends = ((λ e. number), (λ s. refl));
}

no_kinds : IsVerdict alone [] FaultAtEnd
no_kinds = ((λ s. let long : 0 ≡ 1 = ap length (only_number [] s) in omega (arith, long)), (Token 0 ∷ [], number))

two_kinds : IsVerdict alone (Token 0 ∷ Token 0 ∷ Token 0 ∷ []) (FaultAt 1)
two_kinds = (
  omega arith,
  too_long (Token 0) (Token 0) [],
  λ j l. (let first : 0 ≡ j = omega (arith, l) in
      subst (λ k. IsViable alone (take (k + 1) (Token 0 ∷ Token 0 ∷ Token 0 ∷ []))) first ([], number)),
)
