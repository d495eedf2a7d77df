use Rattle.grammar_file.proofs.Common.{statements, IsWrittenOut}
use Rattle.grammar_file.proofs.AndOk.{ok_of_and, err_of_and}
use Rattle.grammar_file.proofs.file.read_file.Goals as goal

pub returns-clause-whole : goal.returns-clause-whole
returns-clause-whole c = ok_of_and c.fill.result c.fill.new.file c.and.result _ c.and.ensures c.fill.ensures.whole

pub returns-clause-written : goal.returns-clause-written
returns-clause-written c = ok_of_and c.fill.result c.fill.new.file c.and.result (λ f. IsWrittenOut f (statements c.args.text.now)) c.and.ensures c.fill.ensures.written

pub returns-clause-referents : goal.returns-clause-referents
returns-clause-referents c = ok_of_and c.fill.result c.fill.new.file c.and.result _ c.and.ensures c.fill.ensures.referents

pub returns-clause-fault : goal.returns-clause-fault
returns-clause-fault c = err_of_and c.fill.result c.fill.new.file c.and.result _ c.and.ensures c.fill.ensures.fault
