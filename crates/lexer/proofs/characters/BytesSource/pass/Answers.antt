use Rattle.lexer.proofs.Std.{rules, arith, subst, ◌≡◌, slice_index_or, true}
use Rattle.lexer.proofs.Common.{IsCharacter-from_scalar, IsCharacter}
use Rattle.lexer.proofs.Passes.{none_passed, one_more_passed}
use Rattle.lexer.proofs.characters.BytesSource.pass.Goals as goal

pub loop-end-init : goal.loop-end-init
loop-end-init g c = none_passed _ c.args.self.now.0.now c.args.i c.requires.within

pub loop-end-preserved : goal.loop-end-preserved
loop-end-preserved g c =
    let t = c.args.self.now.0.now in
    let character : IsCharacter c.from.result = IsCharacter-from_scalar c.from.result (search rules) in
    let passes : goal.F-post g c.args.test c.from.result true = search rules in
    let read : c.from.result ≡ slice_index_or t c.loop-end.end 0 = search rules in
    one_more_passed (λ x. IsCharacter x × goal.F-post g c.args.test x true) t c.args.i c.loop-end.end c.loop-end.invariant (omega arith)
    (subst (λ x. IsCharacter x × goal.F-post g c.args.test x true) read (character, passes))
