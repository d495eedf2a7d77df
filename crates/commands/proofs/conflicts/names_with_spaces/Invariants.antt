use Rattle.commands.proofs.Std.{◌≡◌, ◌++◌, drop, string_bytes}
use Rattle.commands.proofs.Common.{names_with_spaces}
use Rattle.commands.proofs.conflicts.names_with_spaces.Given as goal

-- the names so far, and those of the symbols that are left
abbrev pub invariant-loop-symbol : goal.invariant-loop-symbol
invariant-loop-symbol l = string_bytes l.text ++ names_with_spaces l.grammar (drop l.symbol-index l.symbols) ≡ names_with_spaces l.grammar l.symbols
