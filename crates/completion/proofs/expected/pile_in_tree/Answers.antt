use Rattle.completion.proofs.Std.{◌≡◌, ◌∙◌, ap, length, subst, sym, take, IfOk, IfSome}
use Rattle.completion.proofs.Common.{AreStatesAfter, significant_kinds}
use Rattle.completion.proofs.Significant.{kinds_front}
use Rattle.parser.specs.Parses.{IsParseOf}
use Rattle.completion.proofs.expected.pile_in_tree.Goals as goal

pub returns-clause-after : goal.returns-clause-after
returns-clause-after c =
    let t = c.args.tables.now in
    let items = c.args.doc.now.tokens.items in
    let count : c.in-Some.significant ≡ length (significant_kinds (take c.args.count items)) =
    c.in-Some.ensures ∙ ap (λ l. length (significant_kinds (take c.args.count l.items))) c.tokens.ensures.is in
    let parse = subst (λ s. IsParseOf t (significant_kinds items) s c.parse.result.now) (sym c.nodes.ensures)
    (subst (IsParseOf t (significant_kinds items) c.args.doc.now.store) (sym c.parse.ensures.is) c.requires) in
    subst (λ ks. IfOk c.at.result (λ found. IfSome found (λ pile. AreStatesAfter t ks pile.states)))
    (kinds_front items c.args.count c.in-Some.significant count) (c.at.ensures.after (significant_kinds items) parse)
