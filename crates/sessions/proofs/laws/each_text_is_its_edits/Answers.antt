use Rattle.sessions.proofs.Fresh.{each_text_is_its_edits}
use Rattle.sessions.proofs.laws.each_text_is_its_edits.Goals as goal

pub returns : goal.returns
returns c = each_text_is_its_edits
