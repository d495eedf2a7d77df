use Rattle.std.proofs.Common.{sym, ◌∙◌, string_bytes}
use Rattle.docs.proofs.StoredReading.{no_tree_shown, tree_outcome}
use Rattle.docs.proofs.doc.Doc.tree.Goals as goal

pub returns-in_ok-text-in-Tree : goal.returns-in_ok-text-in-Tree
returns-in_ok-text-in-Tree c = tree_outcome c.args.language.now c.args.self.now c.in-Tree.root c.grammar.result.now (string_bytes c.in_ok-text-in-Tree.text) c.requires
    (sym c.verdict.ensures ∙ c.in-Tree.is) c.grammar.ensures c.in_ok-text-in-Tree.ensures.bytes

pub returns-in-FaultAt : goal.returns-in-FaultAt
returns-in-FaultAt c = no_tree_shown c.args.language.now c.args.self.now c.verdict.result c.requires c.in-FaultAt.is c.verdict.ensures
