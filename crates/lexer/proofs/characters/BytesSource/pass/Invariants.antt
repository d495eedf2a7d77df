use Rattle.lexer.proofs.Std.{length, ◌-◌, true}
use Rattle.lexer.proofs.Common.{IsCharacter}
use Rattle.lexer.proofs.Passes.{ArePassed}
use Rattle.lexer.proofs.characters.BytesSource.pass.Given as goal

abbrev pub invariant-loop-end : goal.invariant-loop-end
invariant-loop-end g l = ArePassed (λ c. IsCharacter c × goal.F-post g l.test c true) l.self.0.now l.i l.end

abbrev pub decreases-loop-end : goal.decreases-loop-end
decreases-loop-end g l = length l.self.0.now - l.end
