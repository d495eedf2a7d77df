use Rattle.docs.proofs.Std.{IfOk-weaker}
use Rattle.docs.proofs.StoredReading.{rows_shown}
use Rattle.docs.proofs.doc.Doc.rows.Goals as goal

pub returns : goal.returns
returns c = IfOk-weaker c.shared_rows.result _ _
    (λ reported is. rows_shown c.args.self.now.unit c.args.language.now c.args.self.now c.grammar-grammar.result.now _ c.requires c.grammar-grammar.ensures is) c.shared_rows.ensures
