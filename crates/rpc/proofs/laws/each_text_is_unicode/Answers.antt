use Rattle.rpc.proofs.Texts.{each_text_is_spelled}
use Rattle.rpc.proofs.laws.each_text_is_unicode.Goals as goal

pub returns : goal.returns
returns c = each_text_is_spelled
