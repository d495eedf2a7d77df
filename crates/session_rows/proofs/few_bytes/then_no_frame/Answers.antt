use Rattle.session_rows.proofs.FewBytes.{then_no_frame as came}
use Rattle.session_rows.proofs.few_bytes.then_no_frame.Goals as goal

pub returns : goal.returns
returns c = came c.args.language.file _ _ c.over.ensures.session
