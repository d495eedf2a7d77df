-- Where it is decided what items call for, each viable list of kinds has a list of the rules that may follow.
use Rattle.tables.proofs.Std.{◌≡◌, ◌≤◌, ◌<◌, ◌⊎◌, ◌↔◌, ◌+◌, ℕ, zero, suc, Bool, true, false, List, [], ◌∷◌, ◌++◌, refl, sym, subst, inl, inr, ⊎_elim, arith, Some, None, slice_get, Contains}
use Rattle.tables.proofs.Common.{Kind, Token, Symbol, Terminal, Nonterminal, Grammar, Production, Tree, Forest, Leaf, Branch, Nil, Cons, IsTree, AreTrees, yield, yields, IsViable, IsSentence, IsExpected, stack_exists, move_iff_viable, move_iff_sentence, AreMovesDecided, IsAccepted}
use Rattle.tables.proofs.NumbersInOrder.{AreThose, none_there, put_first, pass_over}
use Rattle.tables.proofs.Total.{stack_decided}

-- ---- a number above all token rules that a grammar names

abbrev above_symbols : List Symbol → ℕ
above_symbols [] = 0
above_symbols (Terminal a ∷ symbols) = suc a + above_symbols symbols
above_symbols (Nonterminal n ∷ symbols) = above_symbols symbols

abbrev above : List Production → ℕ
above [] = 0
above (p ∷ productions) = above_symbols p.right + above productions

above_right : (productions : List Production) (p n : ℕ) (right : List Symbol) → slice_get productions p ≡ Some (record { left = n; right = right }) → above_symbols right ≤ above productions
above_right [] p n right e = absurd (let f : ⊥ = cc in f)
above_right (q ∷ productions) zero n right e =
    let same : q ≡ record { left = n; right = right } = cc in
    subst (λ (r : Production). above_symbols r.right ≤ above_symbols q.right + above productions) same (omega arith)
above_right (q ∷ productions) (suc p) n right e = let more = above_right productions p n right e in omega (arith, more)

-- ---- a kind of a tree's yield is a rule that the grammar names, or its root

-- k is one of the kinds
abbrev Has : Kind → List Kind → Type 0
Has k [] = ⊥
Has k (j ∷ x) = (j ≡ k) ⊎ Has k x

has_either : (k : Kind) (x y : List Kind) → Has k (x ++ y) → Has k x ⊎ Has k y
has_either k [] y h = inr h
has_either k (j ∷ x) y h = ⊎_elim (λ e. inl (inl e)) (λ more. ⊎_elim (λ l. inl (inr l)) (λ r. inr r) (has_either k x y more)) h

has_middle : (k : Kind) (x y : List Kind) → Has k (x ++ (k ∷ y))
has_middle k [] y = inl refl
has_middle k (j ∷ x) y = inr (has_middle k x y)

module _ (g : Grammar) (a : ℕ) where
  mutual
    named : (t : Tree) (s : Symbol) → IsTree g t s → Has (Token a) (yield t) → (s ≡ Terminal a) ⊎ (a < above g.productions)
    named (Leaf (Token b)) (Terminal c) is h = ⊎_elim (λ e. inl (let f : b ≡ c = is in cc (e, f))) (λ none. absurd none) h
    named (Branch p ts) (Nonterminal n) is h =
        let few = above_right g.productions p n is.0 is.1 in
        ⊎_elim (λ below. inr (omega (arith, below, few))) (λ below. inr below) (named_all ts is.0 is.2 h)
    named t s is h = absurd is

    named_all : (ts : Forest) (symbols : List Symbol) → AreTrees g ts symbols → Has (Token a) (yields ts) → (a < above_symbols symbols) ⊎ (a < above g.productions)
    named_all Nil [] are h = absurd h
    named_all (Cons t ts) (s ∷ symbols) are h =
        ⊎_elim
        (λ first. ⊎_elim (λ e. inl (at_root s symbols e)) (λ below. inr below) (named t s are.0 first))
        (λ rest. ⊎_elim (λ below. inl (later s symbols below)) (λ below. inr below) (named_all ts symbols are.1 rest))
        (has_either (Token a) (yield t) (yields ts) h)
      where
        at_root : (r : Symbol) (rest : List Symbol) → r ≡ Terminal a → a < above_symbols (r ∷ rest)
        at_root (Terminal b) rest e = let f : b ≡ a = cc in omega (arith, f)
        at_root (Nonterminal n) rest e = absurd (let f : ⊥ = cc in f)

        later : (r : Symbol) (rest : List Symbol) → a < above_symbols rest → a < above_symbols (r ∷ rest)
        later (Terminal b) rest l = omega (arith, l)
        later (Nonterminal n) rest l = l
    named_all ts symbols are h = absurd are

  viable_named : (x : List Kind) → IsViable g (x ++ (Token a ∷ [])) → a < above g.productions
  viable_named x v =
      let kinds : Has (Token a) ((x ++ (Token a ∷ [])) ++ v.0) = has_prefix (x ++ (Token a ∷ [])) (has_middle (Token a) x []) in
      ⊎_elim
      (λ e. absurd (let f : ⊥ = cc in f))
      (λ below. below)
      (named v.1.0 (Nonterminal g.start) v.1.1.root (subst (λ l. Has (Token a) l) (sym v.1.1.kinds) kinds))
    where
      has_prefix : (y : List Kind) → Has (Token a) y → Has (Token a) (y ++ v.0)
      has_prefix [] h = absurd h
      has_prefix (j ∷ y) h = ⊎_elim (λ e. inl e) (λ more. inr (has_prefix y more)) h

-- ---- the numbers from k on that have a decidable property, in order

those : (P : ℕ → Type 0) → ((a : ℕ) → P a ⊎ (P a → ⊥)) → (m k : ℕ) → (numbers : List ℕ) × AreThose P k m numbers
those P decided zero k = ([], none_there P k)
those P decided (suc m) k =
    let rest = those P decided m (k + 1) in
    ⊎_elim (λ is. (k ∷ rest.0, put_first P k m rest.0 is rest.1)) (λ not_it. (rest.0, pass_over P k m rest.0 not_it rest.1)) (decided k)

-- ---- what may follow

module _ (g : Grammar) (accepted : IsAccepted g) (decided : AreMovesDecided g) (x : List Kind) (viable : IsViable g x) where
  next_decided : (a : ℕ) → IsViable g (x ++ (Token a ∷ [])) ⊎ (IsViable g (x ++ (Token a ∷ [])) → ⊥)
  next_decided a =
      let s = stack_exists g x viable in
      let moves = move_iff_viable g accepted.free accepted.productive x s.0 (Token a) s.1 in
      ⊎_elim (λ m. inl (moves.0 m)) (λ stuck. inr (λ v. stuck (moves.1 v))) (stack_decided g accepted decided x s.0 s.1 (Some (Token a)))

  end_decided : IsSentence g x ⊎ (IsSentence g x → ⊥)
  end_decided =
      let s = stack_exists g x viable in
      let moves = move_iff_sentence g accepted.free accepted.productive x s.0 s.1 in
      ⊎_elim (λ m. inl (moves.0 m)) (λ stuck. inr (λ v. stuck (moves.1 v))) (stack_decided g accepted decided x s.0 s.1 None)

  pub expected_exists : (rules : List ℕ) × (at_end : Bool) × IsExpected g x rules at_end
  expected_exists =
      let shown = those (λ a. IsViable g (x ++ (Token a ∷ []))) next_decided (above g.productions) 0 in
      let each : (a : ℕ) → Contains shown.0 a ↔ IsViable g (x ++ (Token a ∷ [])) =
      λ a. (shown.1.only a, λ v. let few = viable_named g a x v in shown.1.all a (omega arith) (omega (arith, few)) v) in
      ⊎_elim
      (λ ends. (shown.0, true, record { in_order = shown.1.in_order; each = each; ends = (λ _. ends, λ _. refl) }))
      (λ goes_on. (shown.0, false, record { in_order = shown.1.in_order; each = each; ends = (λ e. absurd (let f : ⊥ = cc in f), λ s. absurd (goes_on s)) }))
      end_decided
