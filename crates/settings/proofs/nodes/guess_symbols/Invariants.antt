use Rattle.std.proofs.Common.{All}
use Rattle.settings.specs.Settings.{IsSymbolRule}
use Rattle.settings.proofs.nodes.guess_symbols.Given as goal

abbrev pub invariant-loop-symbol : goal.invariant-loop-symbol
invariant-loop-symbol l = All (IsSymbolRule l.grammar) l.symbols.items
