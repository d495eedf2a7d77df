use Rattle.dfa.proofs.Std.{◌≡◌, ◌+◌, ◌++◌, drop}
use Rattle.dfa.proofs.Common.{literal_holders}
use Rattle.dfa.proofs.positions.literal_holders.Given as goal

abbrev pub invariant-loop-d : goal.invariant-loop-d
invariant-loop-d l = record {
  past : l.at ≡ l.fn.at + l.d-index;
  holders : l.out.items ++ literal_holders l.c l.at (drop l.d-index l.characters) ≡ l.fn.out.items ++ literal_holders l.c l.fn.at l.characters;
}
