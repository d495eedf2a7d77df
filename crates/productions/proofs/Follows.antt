-- What may follow no symbols, and what may follow those that begin with a token rule.
use Rattle.productions.proofs.Std.{◌≡◌, ◌↔◌, ◌<◌, ℕ, List, [], ◌∷◌, Option, Some, length, slice_index_or, arith, refl, subst, inl, inr, ⊎_elim}
use Rattle.productions.proofs.Common.{Symbol, Terminal, Nonterminal, Grammar, IsNullable, None_left, Drop, InFirst, At_once, MayFollow}

begins_nothing : (g : Grammar) (a : ℕ) (ss : List Symbol) → ss ≡ [] → InFirst g a ss → ⊥
begins_nothing g a ss e At_once = cc e
begins_nothing g a ss e b = cc e

begins_rule : (g : Grammar) (a b : ℕ) (ss rest : List Symbol) → ss ≡ Terminal b ∷ rest → InFirst g a ss → a ≡ b
begins_rule g a b ss rest e At_once = cc e
begins_rule g a b ss rest e i = absurd (cc e)

not_nullable_rule : (g : Grammar) (a : ℕ) (ss rest : List Symbol) → ss ≡ Terminal a ∷ rest → IsNullable g ss → ⊥
not_nullable_rule g a ss rest e None_left = cc e
not_nullable_rule g a ss rest e (Drop p h v w) = cc e

-- after no symbols, only the lookahead itself
pub follows_nothing : (g : Grammar) (ss : List Symbol) (look b : Option ℕ) → length ss ≡ 0 → MayFollow g ss look b ↔ (b ≡ look)
follows_nothing g (s ∷ ss) look b l = absurd (omega (arith, l))
follows_nothing g [] look b l = (⊎_elim (λ x. absurd (begins_nothing g x.0 [] refl x.2)) (λ x. x.1), λ e. inr (None_left, e))

follows_rule : (g : Grammar) (a : ℕ) (rest : List Symbol) (look b : Option ℕ) → MayFollow g (Terminal a ∷ rest) look b ↔ (b ≡ Some a)
follows_rule g a rest look b = (
  ⊎_elim (λ x. subst (λ n. b ≡ Some n) (begins_rule g x.0 a (Terminal a ∷ rest) rest refl x.2) x.1)
      (λ x. absurd (not_nullable_rule g a (Terminal a ∷ rest) rest refl x.0)),
  λ e. inl (a, e, At_once),
)

-- after a token rule, only that rule
pub follows_first : (g : Grammar) (a : ℕ) (d : Symbol) (ss : List Symbol) (look b : Option ℕ) → 0 < length ss → slice_index_or ss 0 d ≡ Terminal a → MayFollow g ss look b ↔ (b ≡ Some a)
follows_first g a d [] look b l e = absurd (omega (arith, l))
follows_first g a d (Terminal c ∷ rest) look b l e = subst (λ n. MayFollow g (Terminal c ∷ rest) look b ↔ (b ≡ Some n)) (cc e) (follows_rule g c rest look b)
follows_first g a d (Nonterminal n ∷ rest) look b l e = absurd (cc e)
