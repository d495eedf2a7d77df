use Rattle.lexer.proofs.Std.{subst, sym}
use Rattle.lexer.proofs.Common.{HasMoreStatesThan}
use Rattle.lexer.proofs.scanner.Scanner.new.Goals as goal

pub returns-in-Ok-clause-few : goal.returns-in-Ok-clause-few
returns-in-Ok-clause-few c = λ more. c.in-Ok.ensures.few (subst (λ rules. HasMoreStatesThan rules 4096) (sym c.patterns.ensures.is) more)

pub returns-in-Err-clause-many : goal.returns-in-Err-clause-many
returns-in-Err-clause-many c = λ e. subst (λ rules. HasMoreStatesThan rules 4096) c.patterns.ensures.is (c.in-Err.ensures.many e)
