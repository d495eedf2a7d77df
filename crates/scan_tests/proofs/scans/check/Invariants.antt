use Rattle.grammar.specs.Grammars.{lexicon_of}
use Rattle.lexer.specs.Tokens.{AreTokensOf}
use Rattle.scan_tests.proofs.scans.check.Given as goal

abbrev pub invariant-steps : goal.invariant-steps
invariant-steps g l = AreTokensOf (lexicon_of l.scanner) l.text l.tokens.items
