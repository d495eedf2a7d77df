-- Sums of numbers and parenthesised sums: what begins them, what may begin them, and the tokens of a number.
use Rattle.std.specs.Prelude.{◌≡◌, ℕ, zero, suc, ◌+◌, ◌<◌, ◌≤◌, ◌⊎◌, Bool, true, false, List, [], ◌∷◌, ◌++◌, length, drop, Option, Some, None, refl, Contains, slice_index_or}
use Rattle.std.proofs.Common.{ap, sym, subst, ◌∙◌, inl, inr, arith}
use Rattle.definitions.specs.declared.Kind.{Kind}
use Rattle.definitions.specs.declared.Kind.TheVariants.{Rule as Token, Invalid}
use Rattle.definitions.specs.declared.Symbol.{Symbol}
use Rattle.definitions.specs.declared.Symbol.TheVariants.{Rule as Terminal, Nonterminal}
use Rattle.definitions.specs.declared.expression.Expression.{Expression}
use Rattle.definitions.specs.Patterns.{Matches}
use Rattle.definitions.specs.Sentences.{IsSentence, IsViable, IsExpected}
use Rattle.definitions.specs.Tokens.{Token as Piece, AreTokens, IsPiece, kinds}
use Rattle.definitions.specs.Trees.{Grammar, Production, HasProduction, Tree, Forest, Leaf, Branch, Nil, Cons, IsTree, AreTrees, yield, yields}

-- NUM 0, PLUS 1, LP 2, RP 3, WS 4; Sum 0, Atom 1
abbrev pub sums : Grammar
sums = record {
  start = 0;
  rules = 5;
  productions =
      record { left = 0; right = Nonterminal 0 ∷ Terminal 1 ∷ Nonterminal 1 ∷ [] }
      ∷ record { left = 0; right = Nonterminal 1 ∷ [] }
      ∷ record { left = 1; right = Terminal 0 ∷ [] }
      ∷ record { left = 1; right = Terminal 2 ∷ Nonterminal 0 ∷ Terminal 3 ∷ [] }
      ∷ [];
}

abbrev pub skips : List Bool
skips = false ∷ false ∷ false ∷ false ∷ true ∷ []

-- ---- what begins a sum

-- a number or a parenthesis comes first
Begins : List Kind → Type 0
Begins [] = ⊥
Begins (k ∷ ks) = (k ≡ Token 0) ⊎ (k ≡ Token 2)

IsFirst : Symbol → Type 0
IsFirst (Terminal a) = (a ≡ 0) ⊎ (a ≡ 2)
IsFirst (Nonterminal n) = Unit {0}

begins_more : (xs ys : List Kind) → Begins xs → Begins (xs ++ ys)
unfolding Begins
begins_more [] ys b = absurd b
begins_more (x ∷ xs) ys b = b

begins_token : (a b : ℕ) → a ≡ b → (b ≡ 0) ⊎ (b ≡ 2) → Begins (Token a ∷ [])
unfolding Begins
begins_token a b same (inl e) = inl (ap (λ n. Token n) (same ∙ e))
begins_token a b same (inr e) = inr (ap (λ n. Token n) (same ∙ e))

right_of : Option Production → List Symbol
right_of None = []
right_of (Some p) = p.right

-- each right side has a first symbol
first_of : (p n : ℕ) (right : List Symbol) → HasProduction sums p n right → (s : Symbol) × (ss : List Symbol) × IsFirst s × (right ≡ s ∷ ss)
unfolding IsFirst right_of
first_of zero n right h = (Nonterminal 0, Terminal 1 ∷ Nonterminal 1 ∷ [], tt, sym (ap right_of h))
first_of (suc zero) n right h = (Nonterminal 1, [], tt, sym (ap right_of h))
first_of (suc (suc zero)) n right h = (Terminal 0, [], inl refl, sym (ap right_of h))
first_of (suc (suc (suc zero))) n right h = (Terminal 2, Nonterminal 0 ∷ Terminal 3 ∷ [], inr refl, sym (ap right_of h))
first_of (suc (suc (suc (suc p)))) n right h = absurd (cc h)

mutual
  unfolding IsFirst

  begins : (t : Tree) (s : Symbol) → IsFirst s → IsTree sums t s → Begins (yield t)
  begins (Leaf (Token a)) (Terminal b) f h = begins_token a b h f
  begins (Leaf (Token a)) (Nonterminal n) f h = absurd h
  begins (Leaf Invalid) s f h = absurd h
  begins (Branch p ts) (Terminal b) f h = absurd h
  begins (Branch p ts) (Nonterminal n) f h =
      let first = first_of p n h.0 h.1 in
      all_begin ts first.0 first.1 first.2 (subst (λ ss. AreTrees sums ts ss) first.3 h.2)

  all_begin : (ts : Forest) (s : Symbol) (ss : List Symbol) → IsFirst s → AreTrees sums ts (s ∷ ss) → Begins (yields ts)
  all_begin Nil s ss f h = absurd h
  all_begin (Cons t ts) s ss f h = begins_more (yield t) (yields ts) (begins t s f h.0)

sentence_begins : (x : List Kind) → IsSentence sums x → Begins x
unfolding IsFirst
sentence_begins x s = subst (λ ks. Begins ks) s.1.kinds (begins s.0 (Nonterminal 0) tt s.1.root)

pub not_empty : ¬ IsSentence sums []
unfolding Begins
not_empty s = sentence_begins [] s

pub number : IsSentence sums (Token 0 ∷ [])
number = (Branch 1 (Cons (Branch 2 (Cons (Leaf (Token 0)) Nil)) Nil), record { root = (_, refl, ((_, refl, (refl, tt)), tt)); kinds = refl })

in_parentheses : IsSentence sums (Token 2 ∷ Token 0 ∷ Token 3 ∷ [])
in_parentheses = (
  Branch 1 (Cons (Branch 3 (Cons (Leaf (Token 2)) (Cons (Branch 1 (Cons (Branch 2 (Cons (Leaf (Token 0)) Nil)) Nil)) (Cons (Leaf (Token 3)) Nil))))
      Nil),
  record { root = (_, refl, ((_, refl, (refl, ((_, refl, ((_, refl, (refl, tt)), tt)), (refl, tt)))), tt)); kinds = refl },
)

-- ---- what may come first

among : (a : ℕ) (k : ℕ) → k < 2 → slice_index_or (0 ∷ 2 ∷ []) k a ≡ a → IsViable sums (Token a ∷ [])
among a zero l e = subst (λ n. IsViable sums (Token n ∷ [])) e ([], number)
among a (suc zero) l e = subst (λ n. IsViable sums (Token n ∷ [])) e (Token 0 ∷ Token 3 ∷ [], in_parentheses)
among a (suc (suc k)) l e = absurd (omega (arith, l))

first_kind : (a : ℕ) (rest : List Kind) → Begins (Token a ∷ rest) → Contains (0 ∷ 2 ∷ []) a
unfolding Begins
first_kind a rest (inl e) = let zero_is : a ≡ 0 = cc e in (0, omega arith, sym zero_is)
first_kind a rest (inr e) = let two_is : a ≡ 2 = cc e in (1, omega arith, sym two_is)

ascending : (k : ℕ) → k + 1 < 2 → slice_index_or (0 ∷ 2 ∷ []) k 0 < slice_index_or (0 ∷ 2 ∷ []) (k + 1) 0
ascending zero l = omega arith
ascending (suc k) l = absurd (omega (arith, l))

pub at_first : IsExpected sums [] (0 ∷ 2 ∷ []) false
at_first = record {
  in_order = λ k l. ascending k l;
  each = λ a. ((λ c. among a c.0 c.1 c.2), (λ v. first_kind a v.0 (sentence_begins (Token a ∷ v.0) v.1)));
  ends = ((λ e. absurd (cc e)), (λ s. absurd (not_empty s)));
}

-- ---- tokens

no_piece : (rules : List Expression) (k : Kind) (n : ℕ) → IsPiece rules [] k n → ⊥
no_piece rules (Token k) n p = omega (arith, p.nonempty, p.inside)
no_piece rules Invalid n p = omega (arith, p.0, p.1)

pub no_tokens : (rules : List Expression) (xs : List Piece) → AreTokens rules [] xs → xs ≡ []
no_tokens rules [] a = refl
no_tokens rules (x ∷ xs) a = absurd (no_piece rules x.kind x.length a.0.piece)

-- where the first rule has the text `2`
module _ (e : Expression) (es : List Expression) (two : Matches e (50 ∷ [])) where
  one_long : (k : Kind) (n : ℕ) → IsPiece (e ∷ es) (50 ∷ []) k n → n ≡ 1
  one_long (Token k) n p = omega (arith, p.nonempty, p.inside)
  one_long Invalid n p = p.0

  of_first : (k : Kind) → IsPiece (e ∷ es) (50 ∷ []) k 1 → k ≡ Token 0
  of_first (Token k) p = let low : k ≤ 0 = p.earliest 0 two in ap (λ n. Token n) (omega (arith, low))
  of_first Invalid p = absurd (p.2 0 1 (omega arith) (omega arith) two)

  nothing_after : (n : ℕ) (xs : List Piece) → n ≡ 1 → AreTokens (e ∷ es) (drop n (50 ∷ [])) xs → xs ≡ []
  nothing_after n xs one a = no_tokens (e ∷ es) xs (subst (λ m. AreTokens (e ∷ es) (drop m (50 ∷ [])) xs) one a)

  pub one_kind : (xs : List Piece) → AreTokens (e ∷ es) (50 ∷ []) xs → kinds skips xs ≡ Token 0 ∷ []
  one_kind [] a = absurd (cc a)
  one_kind (x ∷ xs) a =
      let one = one_long x.kind x.length a.0.piece in
      let first = of_first x.kind (subst (λ n. IsPiece (e ∷ es) (50 ∷ []) x.kind n) one a.0.piece) in
      ap (λ ys. kinds skips (x ∷ ys)) (nothing_after x.length xs one a.1) ∙ ap (λ k. kinds skips (record { kind = k; length = 0; reach = 0 } ∷ [])) first
