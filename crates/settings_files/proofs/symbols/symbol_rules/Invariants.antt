use Rattle.std.proofs.Common.{All}
use Rattle.settings.specs.Settings.{IsSymbolRule}
use Rattle.settings_files.proofs.symbols.symbol_rules.Given as goal

abbrev pub invariant-loop-index : goal.invariant-loop-index
invariant-loop-index l = All (IsSymbolRule l.grammar) l.symbols.items
