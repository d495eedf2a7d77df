-- The symbols by their numbers: the rules before the nonterminals.
use Rattle.std.specs.Prelude.{◌+◌, ◌-◌, nat_lt, if◌then◌else◌, ℕ}
use Rattle.definitions.specs.declared.Symbol.{Symbol}
use Rattle.definitions.specs.declared.Symbol.TheVariants.{Rule as Terminal, Nonterminal}
use Rattle.definitions.specs.Trees.{Grammar}

-- `number g s`: the number of a symbol, the token rules before the nonterminals
abbrev pub number : Grammar → Symbol → ℕ
number g (Terminal a) = a
number g (Nonterminal n) = g.rules + n

-- the symbol with a number, the token rules before the nonterminals
abbrev pub symbol_of : Grammar → ℕ → Symbol
symbol_of g k = if nat_lt k g.rules then Terminal k else Nonterminal (k - g.rules)
