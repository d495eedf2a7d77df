-- What may follow symbols of the grammar is one of its token rules.
use Rattle.productions.proofs.Std.{◌<◌, ℕ, List, Option, sym, subst, All, ⊎_elim, IfSome, All-head, All-tail}
use Rattle.productions.proofs.Common.{Symbol, Terminal, Nonterminal, InFirst, At_once, Within, After, MayFollow, Shape, IsSound, IsKnown}

module _ (g : Shape) (sound : IsSound g) where
  pub begins_known : (a : ℕ) {ss : List Symbol} → InFirst g.grammar a ss → All (IsKnown g) ss → a < g.grammar.rules
  begins_known a (At_once {rest = rest}) h = All-head (IsKnown g) (Terminal a) rest h
  begins_known a (Within p {n = n} {right = right} {rest = rest} x b) h = begins_known a b (sound.right p n right x)
  begins_known a (After {n = n} {rest = rest} v b) h = begins_known a b (All-tail (IsKnown g) (Nonterminal n) rest h)

  pub may_known : (ss : List Symbol) (look a : Option ℕ) → MayFollow g.grammar ss look a → All (IsKnown g) ss → IfSome look (λ b. b < g.grammar.rules) → IfSome a (λ b. b < g.grammar.rules)
  may_known ss look a m h l = ⊎_elim (λ b. subst (λ x. IfSome x (λ b. b < g.grammar.rules)) (sym b.1) (begins_known b.0 b.2 h)) (λ v. subst (λ x. IfSome x (λ b. b < g.grammar.rules)) (sym v.1) l) m
