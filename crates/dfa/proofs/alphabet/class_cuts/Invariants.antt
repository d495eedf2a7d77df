use Rattle.dfa.proofs.Std.{◌≡◌, ◌++◌, drop, All}
use Rattle.dfa.proofs.Common.{IsCharacter, class_cuts}
use Rattle.dfa.proofs.alphabet.class_cuts.Given as goal

abbrev pub invariant-loop-i : goal.invariant-loop-i
invariant-loop-i l = record {
  cuts : l.out.items ++ class_cuts (drop l.i-index l.intervals) ≡ l.fn.out.items ++ class_cuts l.intervals;
  characters : All IsCharacter l.fn.out.items → All IsCharacter l.out.items;
}
