use Rattle.completion.proofs.Std.{◌-◌, ◌≡◌, ◌≤◌, ◌∙◌, List, ap, arith, length, length-take, sym, take}
use Rattle.completion.proofs.Common.{tot, Sums, Token}
use Rattle.std.proofs.Common.{◌^◌}
use Rattle.lexer.proofs.SignificantKinds.{length-kinds}
use Rattle.lexer.proofs.Totals.{total_significant}
use Rattle.completion.proofs.expected.significant_before.Goals as goal

pub returns : goal.returns
returns c =
    let items : List Token = c.args.tokens.now.items in
    let all : c.total_before-sums.result ≡ tot (take c.args.count items) = c.total_before-sums.ensures ∙ ap (λ (xs : List Token). tot (take c.args.count xs)) c.items.ensures in
    let few : length (take c.args.count items) ≤ 2 ^ 32 - 1 = omega (arith, length-take c.args.count items, c.if-count.false) in
    ap (λ (s : Sums). s.significant) all ∙ total_significant (take c.args.count items) few ∙ sym (length-kinds (take c.args.count items))
