-- Sums of numbers and parenthesised sums: which lists of kinds are sentences, the verdicts on some, what may follow, and what is settled.
use Rattle.std.specs.List.Sorted.{IsStrictlyIncreasing}
use Rattle.std.specs.Prelude.{◌≡◌, ℕ, zero, suc, ◌+◌, ◌<◌, ◌==◌, ◌⊎◌, Bool, true, false, List, [], ◌∷◌, ◌++◌, take, Option, Some, None, refl, codes, Contains}
use Rattle.std.proofs.Common.{ap, sym, subst, ◌∙◌, inl, inr, arith}
use Rattle.std.proofs.lemmas.List.{append-nil, append_assoc}
use Rattle.definitions.specs.declared.Kind.TheVariants.{Rule as Token, Invalid}
use Rattle.definitions.specs.declared.Kind.{Kind}
use Rattle.definitions.specs.declared.Symbol.TheVariants.{Rule as Terminal, Nonterminal}
use Rattle.definitions.specs.declared.Symbol.{Symbol}
use Rattle.definitions.specs.declared.expression.Expression.{Expression}
use Rattle.definitions.specs.DocumentNodes.{AreDocumentTrees}
use Rattle.definitions.specs.Nodes.{branches, all_branches}
use Rattle.definitions.specs.Sentences.{IsSentence, IsViable, IsTreeOf, IsVerdict, HasTree, FaultAt, FaultAtEnd, IsExpected}
use Rattle.definitions.specs.Settled.{At, Down, This, Next, IsSettled}
use Rattle.definitions.specs.Trees.{Grammar, Production, HasProduction, Tree, Forest, Leaf, Branch, Nil, Cons, IsTree, AreTrees, yield, yields}
use Rattle.grammar.specs.Grammars.{FileGrammar, lefts}
use Rattle.definitions.proofs.Ordered.{Contains-first, Contains-later, Contains-none, Contains-cases}

-- NUM 0, PLUS 1, LP 2, RP 3, WS 4; Sum 0, Atom 1
abbrev pub sums : Grammar
sums = record {
  start = 0;
  rules = 5;
  productions =
      record { left = 0; right = Nonterminal 0 ∷ Terminal 1 ∷ Nonterminal 1 ∷ [] }
      ∷ record { left = 0; right = Nonterminal 1 ∷ [] }
      ∷ record { left = 1; right = Terminal 0 ∷ [] }
      ∷ record { left = 1; right = Terminal 2 ∷ Nonterminal 0 ∷ Terminal 3 ∷ [] }
      ∷ [];
}

abbrev pub skips : List Bool
skips = false ∷ false ∷ false ∷ false ∷ true ∷ []

-- what the file of sums defines, with these patterns
abbrev pub sums_file : List Expression → FileGrammar
sums_file patterns = record {
  names = codes "NUM" ∷ codes "PLUS" ∷ codes "LP" ∷ codes "RP" ∷ codes "WS" ∷ [];
  patterns = patterns;
  skips = skips;
  nonterminals = codes "Sum" ∷ codes "Atom" ∷ [];
  folds = false ∷ true ∷ [];
  grammar = sums;
  defined = Terminal 0 ∷ Terminal 1 ∷ Terminal 2 ∷ Terminal 3 ∷ Terminal 4 ∷ Nonterminal 0 ∷ Nonterminal 1 ∷ [];
}

lefts_are : (patterns : List Expression) → lefts (sums_file patterns) ≡ 0 ∷ 0 ∷ 1 ∷ 1 ∷ []
lefts_are patterns = refl

-- ---- trees

abbrev pub num : Kind
num = Token 0

abbrev pub plus : Kind
plus = Token 1

abbrev pub left : Kind
left = Token 2

abbrev pub right : Kind
right = Token 3

abbrev pub number : Tree
number = Branch 2 (Cons (Leaf num) Nil)

abbrev pub inside : Tree → Tree
inside t = Branch 3 (Cons (Leaf left) (Cons t (Cons (Leaf right) Nil)))

abbrev pub one : Tree → Tree
one t = Branch 1 (Cons t Nil)

abbrev pub added : Tree → Tree → Tree
added s t = Branch 0 (Cons s (Cons (Leaf plus) (Cons t Nil)))

number_is : IsTree sums number (Nonterminal 1)
number_is = (_, refl, (refl, tt))

inside_is : (t : Tree) → IsTree sums t (Nonterminal 0) → IsTree sums (inside t) (Nonterminal 1)
inside_is t h = (_, refl, (refl, (h, (refl, tt))))

one_is : (t : Tree) → IsTree sums t (Nonterminal 1) → IsTree sums (one t) (Nonterminal 0)
one_is t h = (_, refl, (h, tt))

added_is : (s t : Tree) → IsTree sums s (Nonterminal 0) → IsTree sums t (Nonterminal 1) → IsTree sums (added s t) (Nonterminal 0)
added_is s t h i = (_, refl, (h, (refl, (i, tt))))

-- `1`, `1+2`, `1+2+3`, `(1)`, `((1))`, `(1+2)` and `((1+2))`
abbrev pub single : Tree
single = one number

pub single_is : IsTreeOf sums (num ∷ []) single
single_is = record { root = one_is number number_is; kinds = refl }

abbrev pub double : Tree
double = added single number

pub double_is : IsTreeOf sums (num ∷ plus ∷ num ∷ []) double
double_is = record { root = added_is single number single_is.root number_is; kinds = refl }

abbrev pub triple : Tree
triple = added double number

pub triple_is : IsTreeOf sums (num ∷ plus ∷ num ∷ plus ∷ num ∷ []) triple
triple_is = record { root = added_is double number double_is.root number_is; kinds = refl }

abbrev pub quadruple : Tree
quadruple = added triple number

pub quadruple_is : IsTreeOf sums (num ∷ plus ∷ num ∷ plus ∷ num ∷ plus ∷ num ∷ []) quadruple
quadruple_is = record { root = added_is triple number triple_is.root number_is; kinds = refl }

abbrev pub nested : Tree → Tree
nested t = one (inside t)

pub nested_is : (t : Tree) → IsTree sums t (Nonterminal 0) → IsTree sums (nested t) (Nonterminal 0)
nested_is t h = one_is (inside t) (inside_is t h)

-- a branch for each production, and none for a kind
counts : (branches (Leaf num) ≡ 0) × (branches single ≡ 2) × (branches double ≡ 4) × (branches quadruple ≡ 8) × (branches (nested double) ≡ 6)
counts = (refl, refl, refl, refl, refl)

all_counts : (all_branches [] ≡ 0) × (all_branches (Leaf left ∷ single ∷ Leaf plus ∷ number ∷ []) ≡ 3)
all_counts = (refl, refl)

-- ---- sentences

-- whether a sum goes on so where so many parentheses are open, and a number or a parenthesis has to come, or may not
abbrev goes_on : List Kind → Bool → ℕ → Bool
goes_on [] true d = false
goes_on [] false d = d == 0
goes_on (Token zero ∷ ks) true d = goes_on ks false d
goes_on (Token zero ∷ ks) false d = false
goes_on (Token (suc zero) ∷ ks) true d = false
goes_on (Token (suc zero) ∷ ks) false d = goes_on ks true d
goes_on (Token (suc (suc zero)) ∷ ks) true d = goes_on ks true (suc d)
goes_on (Token (suc (suc zero)) ∷ ks) false d = false
goes_on (Token (suc (suc (suc zero))) ∷ ks) true d = false
goes_on (Token (suc (suc (suc zero))) ∷ ks) false zero = false
goes_on (Token (suc (suc (suc zero))) ∷ ks) false (suc d) = goes_on ks false d
goes_on (Token (suc (suc (suc (suc a)))) ∷ ks) wants d = false
goes_on (Invalid ∷ ks) wants d = false

right_side : Option Production → List Symbol
right_side None = []
right_side (Some p) = p.right

-- a sum or an atom takes a list from where a number has to come to where none may
abbrev Passes : List Kind → Type 0
Passes ks = (d : ℕ) (rest : List Kind) → goes_on (ks ++ rest) true d ≡ goes_on rest false d

-- trees with these roots, of which those of nonterminals do so
abbrev AllPass : Forest → List Symbol → Type 0
AllPass Nil [] = Unit {0}
AllPass Nil (s ∷ ss) = ⊥
AllPass (Cons t ts) [] = ⊥
AllPass (Cons t ts) (Terminal a ∷ ss) = IsTree sums t (Terminal a) × AllPass ts ss
AllPass (Cons t ts) (Nonterminal n ∷ ss) = Passes (yield t) × AllPass ts ss

of_added : (ts : Forest) → AllPass ts (Nonterminal 0 ∷ Terminal 1 ∷ Nonterminal 1 ∷ []) → Passes (yields ts)
of_added Nil h = absurd h
of_added (Cons s Nil) h = absurd h.1
of_added (Cons s (Cons (Leaf Invalid) ts)) h = absurd h.1.0
of_added (Cons s (Cons (Branch p us) ts)) h = absurd h.1.0
of_added (Cons s (Cons (Leaf (Token k)) Nil)) h = absurd h.1.1
of_added (Cons s (Cons (Leaf (Token k)) (Cons t Nil))) h = λ d rest.
    ap (λ ks. goes_on ks true d) (append_assoc (yield s) (Token k ∷ (yield t ++ [])) rest)
    ∙ h.0 d (Token k ∷ (yield t ++ []) ++ rest)
    ∙ ap (λ a. goes_on (Token a ∷ (yield t ++ []) ++ rest) false d) h.1.0
    ∙ ap (λ ks. goes_on ks true d) (append_assoc (yield t) [] rest)
    ∙ h.1.1.0 d rest
of_added (Cons s (Cons (Leaf (Token k)) (Cons t (Cons u ts)))) h = absurd h.1.1.1

of_one : (ts : Forest) → AllPass ts (Nonterminal 1 ∷ []) → Passes (yields ts)
of_one Nil h = absurd h
of_one (Cons t Nil) h = λ d rest. ap (λ ks. goes_on ks true d) (append_assoc (yield t) [] rest) ∙ h.0 d rest
of_one (Cons t (Cons u ts)) h = absurd h.1

of_number : (ts : Forest) → AllPass ts (Terminal 0 ∷ []) → Passes (yields ts)
of_number Nil h = absurd h
of_number (Cons (Leaf Invalid) ts) h = absurd h.0
of_number (Cons (Branch p us) ts) h = absurd h.0
of_number (Cons (Leaf (Token k)) Nil) h = λ d rest. ap (λ a. goes_on (Token a ∷ rest) true d) h.0
of_number (Cons (Leaf (Token k)) (Cons u ts)) h = absurd h.1

of_inside : (ts : Forest) → AllPass ts (Terminal 2 ∷ Nonterminal 0 ∷ Terminal 3 ∷ []) → Passes (yields ts)
of_inside Nil h = absurd h
of_inside (Cons (Leaf Invalid) ts) h = absurd h.0
of_inside (Cons (Branch p us) ts) h = absurd h.0
of_inside (Cons (Leaf (Token j)) Nil) h = absurd h.1
of_inside (Cons (Leaf (Token j)) (Cons t Nil)) h = absurd h.1.1
of_inside (Cons (Leaf (Token j)) (Cons t (Cons (Leaf Invalid) ts))) h = absurd h.1.1.0
of_inside (Cons (Leaf (Token j)) (Cons t (Cons (Branch p us) ts))) h = absurd h.1.1.0
of_inside (Cons (Leaf (Token j)) (Cons t (Cons (Leaf (Token k)) Nil))) h = λ d rest.
    ap (λ a. goes_on (Token a ∷ (yield t ++ (Token k ∷ [])) ++ rest) true d) h.0
    ∙ ap (λ ks. goes_on ks true (suc d)) (append_assoc (yield t) (Token k ∷ []) rest)
    ∙ h.1.0 (suc d) (Token k ∷ rest)
    ∙ ap (λ a. goes_on (Token a ∷ rest) false (suc d)) h.1.1.0
of_inside (Cons (Leaf (Token j)) (Cons t (Cons (Leaf (Token k)) (Cons u ts)))) h = absurd h.1.1.1

below : (p : ℕ) (ts : Forest) (n : ℕ) (ss : List Symbol) → HasProduction sums p n ss → AllPass ts ss → Passes (yields ts)
unfolding right_side
below zero ts n ss h a = of_added ts (subst (λ xs. AllPass ts xs) (sym (ap right_side h)) a)
below (suc zero) ts n ss h a = of_one ts (subst (λ xs. AllPass ts xs) (sym (ap right_side h)) a)
below (suc (suc zero)) ts n ss h a = of_number ts (subst (λ xs. AllPass ts xs) (sym (ap right_side h)) a)
below (suc (suc (suc zero))) ts n ss h a = of_inside ts (subst (λ xs. AllPass ts xs) (sym (ap right_side h)) a)
below (suc (suc (suc (suc p)))) ts n ss h a = absurd (cc h)

mutual
  passes : (t : Tree) (n : ℕ) → IsTree sums t (Nonterminal n) → Passes (yield t)
  passes (Leaf (Token a)) n h = absurd h
  passes (Leaf Invalid) n h = absurd h
  passes (Branch p ts) n h = below p ts n h.0 h.1 (all_pass ts h.0 h.2)

  all_pass : (ts : Forest) (ss : List Symbol) → AreTrees sums ts ss → AllPass ts ss
  all_pass Nil [] h = tt
  all_pass Nil (s ∷ ss) h = absurd h
  all_pass (Cons t ts) [] h = absurd h
  all_pass (Cons t ts) (Terminal a ∷ ss) h = (h.0, all_pass ts ss h.1)
  all_pass (Cons t ts) (Nonterminal n ∷ ss) h = (passes t n h.0, all_pass ts ss h.1)

sentence_goes_on : (x : List Kind) → IsSentence sums x → goes_on x true 0 ≡ true
sentence_goes_on x s =
    ap (λ ks. goes_on ks true 0) (sym s.1.kinds ∙ sym (append-nil (yield s.0))) ∙ passes s.0 0 s.1.root 0 []

pub no_sentence : (x : List Kind) → goes_on x true 0 ≡ false → ¬ IsSentence sums x
no_sentence x fails s = absurd (cc (sym fails ∙ sentence_goes_on x s))

pub no_front : (x : List Kind) → ((rest : List Kind) → goes_on (x ++ rest) true 0 ≡ false) → ¬ IsViable sums x
no_front x fails v = no_sentence (x ++ v.0) (fails v.0) v.1

-- ---- verdicts, and what may follow

-- no kinds
pub nothing_yet : IsVerdict sums [] FaultAtEnd
nothing_yet = (no_sentence [] refl, (num ∷ [], (single, single_is)))

-- `1 2`: nothing begins so
pub two_numbers : IsVerdict sums (num ∷ num ∷ []) (FaultAt 1)
two_numbers = (
  omega arith,
  no_front (num ∷ num ∷ []) (λ rest. refl),
  λ j l. (let first : 0 ≡ j = omega (arith, l) in subst (λ k. IsViable sums (take (k + 1) (num ∷ num ∷ []))) first ([], (single, single_is))),
)

-- and its fault is at the second number, not at the first
not_the_first : IsVerdict sums (num ∷ num ∷ []) (FaultAt 0) → ⊥
not_the_first v = v.1 ([], (single, single_is))

no_tree_of_two : (t : Tree) → IsVerdict sums (num ∷ num ∷ []) (HasTree t) → ⊥
no_tree_of_two t v = no_sentence (num ∷ num ∷ []) refl (t, v)

-- `((1`
pub twice_opened : IsVerdict sums (left ∷ left ∷ num ∷ []) FaultAtEnd
twice_opened = (
  no_sentence (left ∷ left ∷ num ∷ []) refl,
  (right ∷ right ∷ [], (nested (nested single), record { root = nested_is (nested single) (nested_is single single_is.root); kinds = refl })),
)

-- `(1+2`
pub opened_sum : IsVerdict sums (left ∷ num ∷ plus ∷ num ∷ []) FaultAtEnd
opened_sum = (
  no_sentence (left ∷ num ∷ plus ∷ num ∷ []) refl,
  (right ∷ [], (nested double, record { root = nested_is double double_is.root; kinds = refl })),
)

-- `1+2+`
pub one_more : IsVerdict sums (num ∷ plus ∷ num ∷ plus ∷ []) FaultAtEnd
one_more = (no_sentence (num ∷ plus ∷ num ∷ plus ∷ []) refl, (num ∷ [], (triple, triple_is)))

-- `)1+2+3`
pub closed_at_first : IsVerdict sums (right ∷ num ∷ plus ∷ num ∷ plus ∷ num ∷ []) (FaultAt 0)
closed_at_first = (omega arith, no_front (right ∷ []) (λ rest. refl), λ j l. absurd (omega (arith, l)))

whole_is_no_fault : IsVerdict sums (num ∷ []) FaultAtEnd → ⊥
whole_is_no_fault v = v.0 (single, single_is)

either : (a b c : ℕ) → Contains (a ∷ b ∷ []) c → (a ≡ c) ⊎ (b ≡ c)
either a b c h = go (Contains-cases a (b ∷ []) c h)
  where
    last : (b ≡ c) ⊎ Contains [] c → (a ≡ c) ⊎ (b ≡ c)
    last (inl e) = inr e
    last (inr n) = absurd (Contains-none c n)

    go : (a ≡ c) ⊎ Contains (b ∷ []) c → (a ≡ c) ⊎ (b ≡ c)
    go (inl e) = inl e
    go (inr n) = last (Contains-cases b [] c n)

first_of : (a b : ℕ) → Contains (a ∷ b ∷ []) a
first_of a b = Contains-first a (b ∷ [])

second_of : (a b : ℕ) → Contains (a ∷ b ∷ []) b
second_of a b = Contains-later a (b ∷ []) b (Contains-first b [])

ascending : (a b : ℕ) → a < b → IsStrictlyIncreasing (a ∷ b ∷ [])
ascending a b l zero h = l
ascending a b l (suc k) h = absurd (omega (arith, h))

-- at first: a number or a parenthesis, and not the end
pub at_first : IsExpected sums [] (0 ∷ 2 ∷ []) false
at_first = record {
  in_order = ascending 0 2 (omega arith);
  each = λ a. ((λ c. may a (either 0 2 a c)), (λ v. must a v.0 (sentence_goes_on (Token a ∷ v.0) v.1)));
  ends = ((λ e. absurd (cc e)), (λ s. absurd (nothing_yet.0 s)));
}
  where
    may : (a : ℕ) → (0 ≡ a) ⊎ (2 ≡ a) → IsViable sums (Token a ∷ [])
    may a (inl e) = subst (λ n. IsViable sums (Token n ∷ [])) e ([], (single, single_is))
    may a (inr e) = subst (λ n. IsViable sums (Token n ∷ [])) e
        (num ∷ right ∷ [], (nested single, record { root = nested_is single single_is.root; kinds = refl }))

    must : (a : ℕ) (rest : List Kind) → goes_on (Token a ∷ rest) true 0 ≡ true → Contains (0 ∷ 2 ∷ []) a
    must zero rest e = first_of 0 2
    must (suc zero) rest e = absurd (cc e)
    must (suc (suc zero)) rest e = second_of 0 2
    must (suc (suc (suc zero))) rest e = absurd (cc e)
    must (suc (suc (suc (suc a)))) rest e = absurd (cc e)

-- after a number: a plus, or the end
pub after_number : IsExpected sums (num ∷ []) (1 ∷ []) true
after_number = record {
  in_order = λ k l. absurd (omega (arith, l));
  each = λ a. (
    (λ c. subst (λ n. IsViable sums (num ∷ Token n ∷ [])) (only a (Contains-cases 1 [] a c)) (num ∷ [], (double, double_is))),
    (λ v. must a v.0 (sentence_goes_on (num ∷ Token a ∷ v.0) v.1)),
  );
  ends = ((λ e. (single, single_is)), (λ s. refl));
}
  where
    only : (a : ℕ) → (1 ≡ a) ⊎ Contains [] a → 1 ≡ a
    only a (inl e) = e
    only a (inr c) = absurd (Contains-none a c)

    must : (a : ℕ) (rest : List Kind) → goes_on (num ∷ Token a ∷ rest) true 0 ≡ true → Contains (1 ∷ []) a
    must zero rest e = absurd (cc e)
    must (suc zero) rest e = Contains-first 1 []
    must (suc (suc zero)) rest e = absurd (cc e)
    must (suc (suc (suc zero))) rest e = absurd (cc e)
    must (suc (suc (suc (suc a)))) rest e = absurd (cc e)

-- a list that lacks one, and one out of order
too_few : IsExpected sums (num ∷ []) [] true → ⊥
too_few x = Contains-none 1 ((x.each 1).1 (num ∷ [], (double, double_is)))

out_of_order : (x : List Kind) (at_end : Bool) → IsExpected sums x (2 ∷ 0 ∷ []) at_end → ⊥
out_of_order x at_end e = omega (arith, e.in_order 0 (omega arith))

-- after `((1`: a plus or a parenthesis, and not the end
pub after_open : IsExpected sums (left ∷ left ∷ num ∷ []) (1 ∷ 3 ∷ []) false
after_open = record {
  in_order = ascending 1 3 (omega arith);
  each = λ a. ((λ c. may a (either 1 3 a c)), (λ v. must a v.0 (sentence_goes_on (left ∷ left ∷ num ∷ Token a ∷ v.0) v.1)));
  ends = ((λ e. absurd (cc e)), (λ s. absurd (twice_opened.0 s)));
}
  where
    may : (a : ℕ) → (1 ≡ a) ⊎ (3 ≡ a) → IsViable sums (left ∷ left ∷ num ∷ Token a ∷ [])
    may a (inl e) = subst (λ n. IsViable sums (left ∷ left ∷ num ∷ Token n ∷ [])) e
        (num ∷ right ∷ right ∷ [], (nested (nested double), record { root = nested_is (nested double) (nested_is double double_is.root); kinds = refl }))
    may a (inr e) = subst (λ n. IsViable sums (left ∷ left ∷ num ∷ Token n ∷ [])) e
        (right ∷ [], (nested (nested single), record { root = nested_is (nested single) (nested_is single single_is.root); kinds = refl }))

    must : (a : ℕ) (rest : List Kind) → goes_on (left ∷ left ∷ num ∷ Token a ∷ rest) true 0 ≡ true → Contains (1 ∷ 3 ∷ []) a
    must zero rest e = absurd (cc e)
    must (suc zero) rest e = first_of 1 3
    must (suc (suc zero)) rest e = absurd (cc e)
    must (suc (suc (suc zero))) rest e = second_of 1 3
    must (suc (suc (suc (suc a)))) rest e = absurd (cc e)

-- after `1+2+`: a number or a parenthesis, and not the end
pub after_plus : IsExpected sums (num ∷ plus ∷ num ∷ plus ∷ []) (0 ∷ 2 ∷ []) false
after_plus = record {
  in_order = ascending 0 2 (omega arith);
  each = λ a. ((λ c. may a (either 0 2 a c)), (λ v. must a v.0 (sentence_goes_on (num ∷ plus ∷ num ∷ plus ∷ Token a ∷ v.0) v.1)));
  ends = ((λ e. absurd (cc e)), (λ s. absurd (one_more.0 s)));
}
  where
    may : (a : ℕ) → (0 ≡ a) ⊎ (2 ≡ a) → IsViable sums (num ∷ plus ∷ num ∷ plus ∷ Token a ∷ [])
    may a (inl e) = subst (λ n. IsViable sums (num ∷ plus ∷ num ∷ plus ∷ Token n ∷ [])) e ([], (triple, triple_is))
    may a (inr e) = subst (λ n. IsViable sums (num ∷ plus ∷ num ∷ plus ∷ Token n ∷ [])) e
        (num ∷ right ∷ [], (added double (inside single), record { root = added_is double (inside single) double_is.root (inside_is single single_is.root); kinds = refl }))

    must : (a : ℕ) (rest : List Kind) → goes_on (num ∷ plus ∷ num ∷ plus ∷ Token a ∷ rest) true 0 ≡ true → Contains (0 ∷ 2 ∷ []) a
    must zero rest e = first_of 0 2
    must (suc zero) rest e = absurd (cc e)
    must (suc (suc zero)) rest e = second_of 0 2
    must (suc (suc (suc zero))) rest e = absurd (cc e)
    must (suc (suc (suc (suc a)))) rest e = absurd (cc e)

-- ---- what is settled before a fault

-- `1` before a second number: nothing
pub number_settles : AreDocumentTrees sums (num ∷ num ∷ []) (FaultAt 1) []
number_settles = record { tree = single; last = num; after = []; root = single_is.root; way = Down (This (Down (This At))); kinds = refl }

-- `((1`: both parentheses
pub opened_settles : AreDocumentTrees sums (left ∷ left ∷ num ∷ []) FaultAtEnd (Leaf left ∷ Leaf left ∷ [])
opened_settles = record {
  tree = nested (nested single);
  last = num;
  after = right ∷ right ∷ [];
  root = nested_is (nested single) (nested_is single single_is.root);
  way = Down (This (Down (Next (This (Down (This (Down (Next (This (Down (This (Down (This At)))))))))))));
  kinds = refl;
}

-- `(1+2`: the parenthesis, the first number's sum, and the plus
pub sum_settles : AreDocumentTrees sums (left ∷ num ∷ plus ∷ num ∷ []) FaultAtEnd (Leaf left ∷ single ∷ Leaf plus ∷ [])
sum_settles = record {
  tree = nested double;
  last = num;
  after = right ∷ [];
  root = nested_is double double_is.root;
  way = Down (This (Down (Next (This (Down (Next (Next (This (Down (This At))))))))));
  kinds = refl;
}

-- `1+2+`: the sum before the last plus
pub plus_settles : AreDocumentTrees sums (num ∷ plus ∷ num ∷ plus ∷ []) FaultAtEnd (double ∷ [])
plus_settles = record { tree = triple; last = plus; after = num ∷ []; root = triple_is.root; way = Down (Next (This At)); kinds = refl }

-- nothing before a fault at the first token, and with no fault the tree
pub none_settled : AreDocumentTrees sums (right ∷ num ∷ plus ∷ num ∷ plus ∷ num ∷ []) (FaultAt 0) []
none_settled = refl

nothing_is_settled_by_none : IsSettled sums [] (single ∷ []) → ⊥
nothing_is_settled_by_none s = absurd (cc s)

another_tree : AreDocumentTrees sums (num ∷ []) (HasTree single) [] → ⊥
another_tree s = absurd (cc s)
