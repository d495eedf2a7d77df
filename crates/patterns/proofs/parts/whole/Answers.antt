use Rattle.patterns.proofs.Std.{◌∙◌, ap}
use Rattle.patterns.proofs.Common.{Outside, ARepetition, fault_from}
use Rattle.patterns.proofs.Repeats.{read_whole}
use Rattle.patterns.proofs.parts.whole.Goals as goal

pub returns-in-Some-clause-fault : goal.returns-in-Some-clause-fault
returns-in-Some-clause-fault c =
    rw c.fault.ensures (c.in_ok-expression.ensures.read.goes_on ∙ ap (fault_from c.args.end (Outside 0 ARepetition)) c.in-Some.ensures.0)

pub returns-clause-spelled : goal.returns-clause-spelled
returns-clause-spelled c = (read_whole c.in_ok-expression.ensures.read c.in_ok-expression.ensures.stops c.in_default.ensures).0

pub returns-clause-no_fault : goal.returns-clause-no_fault
returns-clause-no_fault c = (read_whole c.in_ok-expression.ensures.read c.in_ok-expression.ensures.stops c.in_default.ensures).1
