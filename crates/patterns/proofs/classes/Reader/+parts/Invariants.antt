use Rattle.patterns.proofs.Std.{◌≡◌, ◌+◌, ◌-◌, ◌*◌, length, true}
use Rattle.patterns.proofs.Common.{ARepetition, Alt, Seq, writing, stops, IsRead, HasNoBlank}
use Rattle.patterns.proofs.classes.Reader.+parts.Given as goal

abbrev pub decreases-alternatives : goal.decreases-alternatives
decreases-alternatives l = 6 * (64 - l.self.depth) + 5

abbrev pub decreases-sequence : goal.decreases-sequence
decreases-sequence l = 6 * (64 - l.self.depth) + 4

abbrev pub decreases-repetition : goal.decreases-repetition
decreases-repetition l = 6 * (64 - l.self.depth) + 3

abbrev pub decreases-atom : goal.decreases-atom
decreases-atom l = 6 * (64 - l.self.depth) + 2

abbrev pub decreases-bare_atom : goal.decreases-bare_atom
decreases-bare_atom l = 6 * (64 - l.self.depth) + 1

abbrev pub invariant-alternatives-loop-after : goal.invariant-alternatives-loop-after
invariant-alternatives-loop-after l = IsRead Alt l.self.depth ARepetition l.self.end l.words l.rest l.choice × (stops (writing l.rest) ≡ true)

abbrev pub decreases-alternatives-loop-after : goal.decreases-alternatives-loop-after
decreases-alternatives-loop-after l = length l.rest

abbrev pub invariant-sequence-loop-self : goal.invariant-sequence-loop-self
invariant-sequence-loop-self l = IsRead Seq l.self.depth ARepetition l.self.end l.words l.rest l.sequence × HasNoBlank (writing l.rest)

abbrev pub decreases-sequence-loop-self : goal.decreases-sequence-loop-self
decreases-sequence-loop-self l = length l.rest
