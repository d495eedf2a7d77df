use Rattle.grammar.proofs.Std.{◌≡◌, take, map}
use Rattle.grammar.proofs.Common.{symbol_of, texts}
use Rattle.grammar.proofs.numbers.symbols_of.Given as goal

abbrev pub invariant-loop-name : goal.invariant-loop-name
invariant-loop-name l = l.symbols.items ≡ map (symbol_of l.names.nonterminals (map (λ r. r.name) l.names.rules)) (texts (take l.name-index l.right))
