use Rattle.dfa.proofs.Std.{◌≡◌, ◌++◌, drop, All}
use Rattle.dfa.proofs.Common.{IsCharacter, all_cuts}
use Rattle.dfa.proofs.alphabet.all_cuts.Given as goal

abbrev pub invariant-loop-pattern : goal.invariant-loop-pattern
invariant-loop-pattern l = record { cuts : l.out.items ++ all_cuts (drop l.pattern-index l.patterns) ≡ all_cuts l.patterns; characters : All IsCharacter l.out.items }
