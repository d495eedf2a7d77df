use Rattle.std.proofs.Common.{◌≡◌, take}
use Rattle.mending.proofs.kinds.copied.Given as goal

abbrev pub invariant-loop-k : goal.invariant-loop-k
invariant-loop-k g l = record {
  copied : l.copy.items ≡ take l.k (g.K.Kinds.kinds l.kinds);
  before : g.K.Kinds.is_before l.kinds l.k l.ahead;
}
