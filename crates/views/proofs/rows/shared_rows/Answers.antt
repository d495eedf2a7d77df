use Rattle.views.proofs.Std.{◌≡◌, ◌∙◌, ◌∷◌, ◌++◌, [], ap, sym, subst, IsUtf8-string_bytes}
use Rattle.views.proofs.Common.{kind_name, SharedRow, shared_bytes}
use Rattle.views.proofs.RowsOfTokens.{IsReported, shown_more}
use Rattle.views.proofs.rows.shared_rows.Goals as goal

pub loop-token-preserved : goal.loop-token-preserved
loop-token-preserved c =
    let row : SharedRow = record { name = c.in_ok-name.name; range = record { start = c.position-start.result; end = c.position-end.result } } in
    let next : c.loop-token.token-iterator ≡ c.in-Some.token.now ∷ c.next.new.self = c.in-Some.ensures.steps in
    let offset = rw c.length.ensures at c.advance.ensures.offset in
    let items : c.push.new.self.items ≡ c.loop-token.rows.items ++ row ∷ [] = c.in_ok-push.ensures.items in
    subst (λ rs. IsReported shared_bytes c.args.unit c.args.grammar.now c.args.text.now c.args.tokens.now.items rs c.advance.new.self c.next.new.self) (sym items)
    (shown_more shared_bytes c.args.unit c.args.grammar.now c.args.text.now c.args.tokens.now.items c.loop-token.rows.items c.loop-token.places c.advance.new.self
    c.in-Some.token.now c.next.new.self row
    (subst (λ ts. IsReported shared_bytes c.args.unit c.args.grammar.now c.args.text.now c.args.tokens.now.items c.loop-token.rows.items c.loop-token.places ts) next c.loop-token.invariant)
    c.advance.ensures.unit c.advance.ensures.text offset
    (c.in_ok-name.ensures ∙ ap (kind_name c.args.grammar.now.names) c.kind.ensures) (IsUtf8-string_bytes c.in_ok-name.name.value) c.position-start.ensures c.position-end.ensures)
