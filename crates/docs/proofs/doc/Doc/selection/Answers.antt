use Rattle.std.proofs.Common.{refl}
use Rattle.docs.proofs.StoredReading.{has_the_nodes, roots_found, selection_answered}
use Rattle.docs.proofs.doc.Doc.selection.Goals as goal

pub selection-requires : goal.selection-requires
selection-requires c =
    let language = c.requires.0 in
    let has = has_the_nodes c.stack_has_the_nodes_of_the_document.ensures language c.args.self.now c.requires.1 in
    (language.file, c.requires.1.tokens, roots_found language c.args.self.now language.file c.stack.result.now c.requires.1 has refl c.stack.ensures)

pub returns : goal.returns
returns c = λ language current.
    let has = has_the_nodes c.stack_has_the_nodes_of_the_document.ensures language c.args.self.now current in
    selection_answered c.args.self.now.unit language c.args.self.now c.stack.result.now c.selection.result c.offset.result c.args.position
    current has c.stack.ensures c.offset.ensures.is (c.selection.ensures language.file)
