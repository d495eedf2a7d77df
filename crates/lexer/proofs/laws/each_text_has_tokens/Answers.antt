use Rattle.lexer.proofs.Exist.{tokens_exist}
use Rattle.lexer.proofs.laws.each_text_has_tokens.Goals as goal

pub returns : goal.returns
returns c = λ rules table t a text. tokens_exist rules table a t text
