use Rattle.session_rows.proofs.FewBytes.{cut_short as came}
use Rattle.session_rows.proofs.few_bytes.cut_short.Goals as goal

pub returns : goal.returns
returns c = came c.args.language.file _ _ c.over.ensures.session
