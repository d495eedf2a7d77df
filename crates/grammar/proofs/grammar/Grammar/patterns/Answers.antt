use Rattle.grammar.proofs.Std.{◌≤◌, arith, length, subst}
use Rattle.grammar.proofs.Common.{FileGrammar}
use Rattle.std.proofs.Common.{rules}
use Rattle.grammar.proofs.grammar.Grammar.patterns.Goals as goal

pub returns-clause-is : goal.returns-clause-is
returns-clause-is c = search rules

pub returns-clause-few : goal.returns-clause-few
returns-clause-few c =
    let sound = c.self.invariant.0 in
    subst (λ (f : FileGrammar). length f.patterns ≤ 256) c.self.view_is (omega (arith, sound.few_rules, sound.patterns))
