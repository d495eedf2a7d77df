use Rattle.docs.proofs.Std.{IfOk-weaker}
use Rattle.docs.proofs.Common.{if_ok_both}
use Rattle.docs.proofs.StoredReading.{fault_shown, tree_there}
use Rattle.docs.proofs.doc.Doc.diagnostic.Goals as goal

pub returns-clause-reported : goal.returns-clause-reported
returns-clause-reported c = if_ok_both c.diagnostic.result
    (λ reported is bytes. fault_shown c.args.self.now.unit c.args.language.now c.args.self.now c.grammar.result.now c.tables.result.now reported c.requires
    c.grammar.ensures c.tables.ensures.is is bytes) c.diagnostic.ensures.reported c.diagnostic.ensures.bytes

pub returns-clause-tree : goal.returns-clause-tree
returns-clause-tree c = IfOk-weaker c.diagnostic.result _ _
    (λ reported is. tree_there c.args.self.now.unit c.args.language.now c.args.self.now c.grammar.result.now c.tables.result.now reported c.requires c.tables.ensures.is is)
    c.diagnostic.ensures.reported
