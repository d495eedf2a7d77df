use Rattle.colours.proofs.Std.{◌+◌, ◌≡◌, ◌≤◌, length}
use Rattle.colours.specs.Steps.{line_at}
use Rattle.colours.proofs.steps.Steps.advance_far.Given as goal

abbrev pub invariant-loop-left : goal.invariant-loop-left
invariant-loop-left l = record {
  text : l.self.text ≡ l.fn.self.text;
  unit : l.self.unit ≡ l.fn.self.unit;
  offset : l.self.offset + l.left ≡ l.fn.self.offset + l.n;
  within : l.self.offset ≤ length l.fn.self.text;
  first : l.self.first ≡ line_at l.fn.self;
  last : l.self.last ≡ line_at l.self;
}

abbrev pub decreases-loop-left : goal.decreases-loop-left
decreases-loop-left l = l.left
