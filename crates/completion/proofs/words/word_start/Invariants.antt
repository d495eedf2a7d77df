use Rattle.completion.proofs.Std.{◌-◌, ◌≤◌}
use Rattle.completion.proofs.words.word_start.Given as goal

abbrev pub invariant-wider : goal.invariant-wider
invariant-wider l = 1 ≤ l.width

abbrev pub decreases-wider : goal.decreases-wider
decreases-wider l = l.end - l.width
