use Rattle.session_rows.proofs.FewBytes.{no_json as came}
use Rattle.session_rows.proofs.few_bytes.no_json.Goals as goal

pub returns : goal.returns
returns c = came c.args.language.file _ _ c.over.ensures.session
