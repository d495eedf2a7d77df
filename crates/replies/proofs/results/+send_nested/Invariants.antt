use Rattle.std.proofs.Common.{length}
use Rattle.replies.proofs.results.+send_nested.Given as goal

abbrev pub decreases-send_nested : goal.decreases-send_nested
decreases-send_nested g l = length l.outer.now
