use Rattle.colours.proofs.Std.{◌≡◌}
use Rattle.colours.proofs.WindowWalks.{AreWithin}
use Rattle.colours.specs.Steps.{line_at}
use Rattle.colours.proofs.ranges.Window.colours.Given as goal

abbrev pub invariant-loop-token : goal.invariant-loop-token
invariant-loop-token l = record {
  walk : AreWithin l.fn.unit l.text l.palette l.self.from l.self.to l.tokens.items l.encoder.numbers.items l.encoder.last l.steps l.token-iterator;
  ends : l.steps.last ≡ line_at l.steps;
}
