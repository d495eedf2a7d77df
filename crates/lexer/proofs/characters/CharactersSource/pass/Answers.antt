use Rattle.lexer.proofs.Std.{rules, arith, slice_index_or, true}
use Rattle.lexer.proofs.Common.{IsCharacter-from_scalar, IsCharacter}
use Rattle.lexer.proofs.Passes.{none_passed, one_more_passed}
use Rattle.lexer.proofs.characters.CharactersSource.pass.Goals as goal

pub loop-end-init : goal.loop-end-init
loop-end-init g c = none_passed _ c.args.self.now.0.now c.args.i c.requires.within

pub loop-end-preserved : goal.loop-end-preserved
loop-end-preserved g c =
    let t = c.args.self.now.0.now in
    let x = slice_index_or t c.loop-end.end 0 in
    let character : IsCharacter x = IsCharacter-from_scalar x (search rules) in
    let passes : goal.F-post g c.args.test x true = search rules in
    one_more_passed (λ x. IsCharacter x × goal.F-post g c.args.test x true) t c.args.i c.loop-end.end c.loop-end.invariant (omega arith) (character, passes)
