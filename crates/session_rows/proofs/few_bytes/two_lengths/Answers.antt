use Rattle.session_rows.proofs.FewBytes.{two_lengths as came}
use Rattle.session_rows.proofs.few_bytes.two_lengths.Goals as goal

pub returns : goal.returns
returns c = came c.args.language.file _ _ c.over.ensures.session
