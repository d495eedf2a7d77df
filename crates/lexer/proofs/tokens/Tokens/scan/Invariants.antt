use Rattle.lexer.proofs.Std.{◌-◌, length}
use Rattle.lexer.proofs.Common.{AreNext}
use Rattle.lexer.proofs.tokens.Tokens.scan.Given as goal

abbrev pub invariant-loop-at : goal.invariant-loop-at
invariant-loop-at g l = AreNext l.scan (g.S.Source.text l.source) 0 l.items l.at

abbrev pub decreases-loop-at : goal.decreases-loop-at
decreases-loop-at g l = length (g.S.Source.text l.source) - l.at
