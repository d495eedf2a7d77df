use Rattle.dfa.proofs.Std.{◌≡◌, ◌++◌, drop}
use Rattle.dfa.proofs.Common.{all_positions, unmarked, AllMade}
use Rattle.dfa.proofs.build.blank_marks.Given as goal

abbrev pub invariant-loop-pattern : goal.invariant-loop-pattern
invariant-loop-pattern l = record {
  blank : l.marks.items ++ unmarked (all_positions (drop l.pattern-index l.patterns)) ≡ unmarked (all_positions l.patterns);
  made : AllMade (drop l.pattern-index l.patterns) → AllMade l.patterns;
}
