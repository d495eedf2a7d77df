use Rattle.std.proofs.Common.{All}
use Rattle.settings.specs.Settings.{IsPart}
use Rattle.settings_files.proofs.symbols.Reader.parts.Given as goal

abbrev pub invariant-loop-name : goal.invariant-loop-name
invariant-loop-name l = All (IsPart l.self.grammar.now) l.parts.items
