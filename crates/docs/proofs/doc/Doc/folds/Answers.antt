use Rattle.docs.proofs.Std.{IfOk-weaker}
use Rattle.docs.proofs.StoredReading.{has_the_nodes, roots_found, folds_shown}
use Rattle.docs.proofs.doc.Doc.folds.Goals as goal

pub folds-requires-clause-roots : goal.folds-requires-clause-roots
folds-requires-clause-roots c =
    let has = has_the_nodes c.stack_has_the_nodes_of_the_document.ensures c.args.language.now c.args.self.now c.requires in
    roots_found c.args.language.now c.args.self.now c.grammar.result.now c.stack.result.now c.requires has c.grammar.ensures c.stack.ensures

pub returns : goal.returns
returns c =
    let has = has_the_nodes c.stack_has_the_nodes_of_the_document.ensures c.args.language.now c.args.self.now c.requires in
    IfOk-weaker c.folds.result _ _ (λ pairs are. folds_shown c.args.language.now c.args.self.now c.grammar.result.now c.stack.result.now
    pairs.items c.requires has c.grammar.ensures c.stack.ensures are) c.folds.ensures
