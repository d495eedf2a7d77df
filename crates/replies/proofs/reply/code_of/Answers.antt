use Rattle.replies.proofs.Std.{sym, ap}
use Rattle.replies.proofs.Common.{code_of}
use Rattle.replies.proofs.reply.code_of.Goals as goal

pub returns-in-ParseError : goal.returns-in-ParseError
returns-in-ParseError c = ap code_of (sym c.in-ParseError.is)
