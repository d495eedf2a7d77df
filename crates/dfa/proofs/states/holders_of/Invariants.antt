use Rattle.dfa.proofs.Std.{◌≡◌, ◌+◌, ◌++◌, drop}
use Rattle.dfa.proofs.Common.{all_holders, all_positions}
use Rattle.dfa.proofs.states.holders_of.Given as goal

abbrev pub invariant-loop-pattern : goal.invariant-loop-pattern
invariant-loop-pattern l = record {
  many : l.at + all_positions (drop l.pattern-index l.patterns) ≡ all_positions l.patterns;
  holders : l.places.items ++ all_holders l.c l.at (drop l.pattern-index l.patterns) ≡ all_holders l.c 0 l.patterns;
}
