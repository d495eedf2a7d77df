use Rattle.docs.proofs.Std.{arith}
use Rattle.docs.proofs.Common.{fits_from}
use Rattle.docs.proofs.pending.Pending.new.Goals as goal

pub returns-clause-fits : goal.returns-clause-fits
returns-clause-fits c = fits_from c.args.doc.text c.len-length.ensures.characters (omega (arith, c.bytes-bytes.ensures.count, c.bytes-bytes.ensures.few))
