use Rattle.dfa.proofs.Std.{◌≡◌, ◌++◌, drop, All}
use Rattle.dfa.proofs.Common.{IsCharacter, literal_cuts}
use Rattle.dfa.proofs.alphabet.literal_cuts.Given as goal

abbrev pub invariant-loop-c : goal.invariant-loop-c
invariant-loop-c l = record {
  cuts : l.out.items ++ literal_cuts (drop l.c-index l.characters) ≡ l.fn.out.items ++ literal_cuts l.characters;
  characters : All IsCharacter l.fn.out.items → All IsCharacter l.out.items;
}
