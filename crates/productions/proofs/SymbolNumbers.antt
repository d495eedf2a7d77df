-- The numbers of symbols.
use Rattle.productions.proofs.Std.{◌≡◌, ◌+◌, ◌-◌, ℕ, ap, ◌∙◌, inl, inr, arith, if◌then◌else◌, cases_lt, lt-ltb, le-ltb}
use Rattle.productions.proofs.Common.{Symbol, Terminal, Nonterminal, Grammar, Shape, IsKnown, number, symbol_of}

pub number-symbol_of : (g : Grammar) (k : ℕ) → number g (symbol_of g k) ≡ k
number-symbol_of g k = elim (cases_lt k g.rules) [
  | inl l ↦ ap (λ b. number g (if b then Terminal k else Nonterminal (k - g.rules))) (lt-ltb k g.rules l)
  | inr m ↦ ap (λ b. number g (if b then Terminal k else Nonterminal (k - g.rules))) (le-ltb k g.rules m) ∙ omega (arith, m)
]

pub symbol_of-number : (g : Shape) (s : Symbol) → IsKnown g s → symbol_of g.grammar (number g.grammar s) ≡ s
symbol_of-number g (Terminal a) h = ap (λ b. if b then Terminal a else Nonterminal (a - g.grammar.rules)) (lt-ltb a g.grammar.rules h)
symbol_of-number g (Nonterminal n) h =
    let r = g.grammar.rules in
    let back : r + n - r ≡ n = omega arith in
    ap (λ b. if b then Terminal (r + n) else Nonterminal (r + n - r)) (le-ltb (r + n) r (omega arith)) ∙ ap Nonterminal back
