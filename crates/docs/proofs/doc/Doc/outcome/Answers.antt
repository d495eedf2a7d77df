use Rattle.std.proofs.Common.{sym, ◌∙◌, string_bytes, rules}
use Rattle.docs.proofs.StoredReading.{tree_outcome}
use Rattle.docs.proofs.doc.Doc.outcome.Goals as goal

pub returns : goal.returns
returns c = tree_outcome c.args.language.now c.args.self.now c.in-Tree.root c.grammar.result.now (string_bytes c.in_ok-text.text) c.requires
    (sym c.verdict.ensures ∙ c.in-Tree.is) c.grammar.ensures c.in_ok-text.ensures.bytes

pub returns-in-Some : goal.returns-in-Some
returns-in-Some c = search rules
