use Rattle.colours.proofs.Std.{◌≤◌, ◌≡◌, ◌^◌, ◌-◌, ◌∙◌, List, ap, arith, length, sum_by-take-le, take}
use Rattle.colours.proofs.Common.{characters, tokens_length, tot, total_characters, Sums, Token}
use Rattle.colours.proofs.ranges.Window.first.Goals as goal

pub returns-clause-offset : goal.returns-clause-offset
returns-clause-offset c =
    let items : List Token = c.args.tokens.now.items in
    let place = c.locate-place.result.0 in
    let sum : c.locate-place.result.1 ≡ tot (take place items) = c.locate-place.ensures.before ∙ ap (λ (xs : List Token). tot (take place xs)) c.items.ensures in
    let whole : characters items ≡ length c.args.text.now = tokens_length c.requires.0 c.args.text.now items c.requires.1 in
    let few : characters (take place items) ≤ 2 ^ 32 - 1 =
    omega (arith, whole, sum_by-take-le (λ (x : Token). x.length) items place, c.len-length.ensures.count, c.len-length.ensures.few) in
    ap (λ (s : Sums). s.characters) sum ∙ total_characters (take place items) few
