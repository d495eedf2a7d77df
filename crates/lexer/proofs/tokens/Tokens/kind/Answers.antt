use Rattle.lexer.proofs.Std.{arith, sym, ap, ◌∙◌, ◌≡◌, ◌<◌, Some, length, slice_get, option_copied, slice_get_past, slice_get-get_or}
use Rattle.lexer.proofs.Common.{Invalid, significant_kinds}
use Rattle.lexer.proofs.SignificantKinds.{kind_at, get_none, length-kinds}
use Rattle.lexer.proofs.tokens.Tokens.kind.Goals as goal

pub returns-then-k-significant : goal.returns-then-k-significant
returns-then-k-significant c =
    let xs = c.args.self.now.items in
    sym (slice_get_past (significant_kinds xs) c.args.k (omega (arith, c.if-k-significant.true, c.significant.ensures, length-kinds xs)))

pub returns-in_err-token : goal.returns-in_err-token
returns-in_err-token c = absurd (get_none c.self.inside.items c.place.result (omega (arith, c.place.ensures.within, ap (λ d. length d.items) c.self.view_is))
    (sym c.get.ensures ∙ ap option_copied c.in_err-token.was))

pub returns : goal.returns
returns c =
    let xs = c.args.self.now.items in
    let x = c.in_ok-token.token.now in
    let is : slice_get xs c.place.result ≡ Some x = ap (λ d. slice_get d.items c.place.result) (sym c.self.view_is) ∙ sym c.get.ensures ∙ ap option_copied c.in_ok-token.was in
    let kind = kind_at xs c.place.result c.args.k x is c.place.ensures.before c.place.ensures.at in
    let inside : c.args.k < length (significant_kinds xs) = omega (arith, c.if-k-significant.false, c.significant.ensures, length-kinds xs) in
    sym (slice_get-get_or (significant_kinds xs) c.args.k Invalid inside ∙ ap (λ k. Some k) (kind ∙ sym c.kind.ensures))
