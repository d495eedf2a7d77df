use Rattle.text.proofs.Std.{arith, common_steps}
use Rattle.text.proofs.document.Text.characters.Goals as goal

pub loop-piece-preserved : goal.loop-piece-preserved
loop-piece-preserved c = grind (arith, common_steps)
