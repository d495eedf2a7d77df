use Rattle.sessions.proofs.Sizes.{too_large_is_exact}
use Rattle.sessions.proofs.laws.too_large_is_exact.Goals as goal

pub returns : goal.returns
returns c = too_large_is_exact c.each_text_is_unicode.ensures
