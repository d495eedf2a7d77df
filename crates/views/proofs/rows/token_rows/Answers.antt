use Rattle.views.proofs.Std.{◌≡◌, ◌∙◌, ◌∷◌, ◌++◌, [], ap, sym, subst}
use Rattle.views.proofs.Common.{kind_name, Row, row_bytes}
use Rattle.views.proofs.RowsOfTokens.{IsReported, shown_more}
use Rattle.views.proofs.rows.token_rows.Goals as goal

pub loop-token-preserved : goal.loop-token-preserved
loop-token-preserved c =
    let row : Row = record { name = c.kind_name-name.result; range = record { start = c.position-start.result; end = c.position-end.result } } in
    let next : c.loop-token.token-iterator ≡ c.in-Some.token.now ∷ c.next.new.self = c.in-Some.ensures.steps in
    let offset = rw c.length.ensures at c.advance.ensures.offset in
    let items : c.push.new.self.items ≡ c.loop-token.rows.items ++ row ∷ [] = c.in_ok-push.ensures.items in
    subst (λ rs. IsReported row_bytes c.args.unit c.args.grammar.now c.args.text.now c.args.tokens.now.items rs c.advance.new.self c.next.new.self) (sym items)
    (shown_more row_bytes c.args.unit c.args.grammar.now c.args.text.now c.args.tokens.now.items c.loop-token.rows.items c.loop-token.places c.advance.new.self
    c.in-Some.token.now c.next.new.self row
    (subst (λ ts. IsReported row_bytes c.args.unit c.args.grammar.now c.args.text.now c.args.tokens.now.items c.loop-token.rows.items c.loop-token.places ts) next c.loop-token.invariant)
    c.advance.ensures.unit c.advance.ensures.text offset
    (c.kind_name-name.ensures ∙ ap (kind_name c.args.grammar.now.names) c.kind.ensures) c.kind_name-name.utf8 c.position-start.ensures c.position-end.ensures)
