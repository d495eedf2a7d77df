use Rattle.colours.proofs.Std.{◌≡◌}
use Rattle.colours.proofs.Walks.{AreColoured}
use Rattle.colours.specs.Steps.{line_at}
use Rattle.colours.proofs.whole.whole.Given as goal

abbrev pub invariant-loop-token : goal.invariant-loop-token
invariant-loop-token l = record {
  walk : AreColoured l.fn.unit l.text l.palette l.tokens.items l.encoder.numbers.items l.encoder.last l.steps l.token-iterator;
  ends : l.steps.last ≡ line_at l.steps;
}
