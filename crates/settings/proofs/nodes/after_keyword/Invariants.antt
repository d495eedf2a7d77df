use Rattle.std.proofs.Common.{IfSome}
use Rattle.settings.specs.Guesses.{IsNaming}
use Rattle.settings.proofs.nodes.after_keyword.Given as goal

abbrev pub invariant-loop-symbol : goal.invariant-loop-symbol
invariant-loop-symbol l = IfSome l.before (IsNaming l.known.grammar.now)
