use Rattle.colours.proofs.Encodings.{ArePushed}
use Rattle.colours.proofs.encoder.Encoder.push_between.Given as goal

abbrev pub invariant-loop-line : goal.invariant-loop-line
invariant-loop-line l = ArePushed l.steps.unit l.steps.text l.colour l.fn.from l.fn.to l.initial.self.numbers.items l.initial.self.last l.self.numbers.items l.self.last l.line l.start
