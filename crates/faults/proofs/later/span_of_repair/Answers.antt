use Rattle.std.proofs.Common.{◌∙◌}
use Rattle.faults.proofs.Placed.{fault_at}
use Rattle.faults.proofs.later.span_of_repair.Goals as goal

pub returns-clause-is : goal.returns-clause-is
returns-clause-is c language current =
    c.span_of_token.ensures.is language current ∙ fault_at language c.args.doc.now current c.number_of.result c.args.repair.now c.number_of.ensures
