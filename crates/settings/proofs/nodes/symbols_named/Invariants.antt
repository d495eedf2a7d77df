use Rattle.std.proofs.Common.{All}
use Rattle.settings.specs.Guesses.{IsNamed}
use Rattle.settings.proofs.nodes.symbols_named.Given as goal

abbrev pub invariant-loop-production : goal.invariant-loop-production
invariant-loop-production l = All (IsNamed l.known.grammar.now) l.found.items
