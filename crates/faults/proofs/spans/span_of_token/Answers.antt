use Rattle.std.proofs.Common.{◌≡◌, ◌∙◌, ◌≤◌, ap, arith, length, map, min, slice_get, subst, sym, List, All, IsSomeAnd}
use Rattle.std.specs.Prelude.{count_by}
use Rattle.definitions.specs.Answers.{end_of}
use Rattle.definitions.specs.Tokens.{is_skipped}
use Rattle.lexer.specs.Tokens.{is_significant, kind_in, plain}
use Rattle.lexer.specs.declared.sums.Token.{Token}
use Rattle.readings.specs.Contents.{placed_parts}
use Rattle.faults.proofs.Placed.{past, stands}
use Rattle.faults.proofs.spans.span_of_token.Goals as goal

pub returns-then-number-significant-clause-is : goal.returns-then-number-significant-clause-is
returns-then-number-significant-clause-is c language current =
    let d = c.args.doc.now in
    let same = ap (λ l. l.items) c.tokens-tokens.ensures.is in
    let counted = c.significant.ensures ∙ ap (count_by is_significant) same in
    let few : count_by is_significant d.tokens.items ≤ c.args.number = omega (arith, c.if-number-significant.true, counted) in
    let end : c.len-end.result ≡ length d.text = c.len-end.ensures.count ∙ ap length c.characters.ensures in
    ap (λ n. (n, n)) end ∙ sym (past language d current c.args.number few)

pub returns-clause-is : goal.returns-clause-is
returns-clause-is c language current =
    let d = c.args.doc.now in
    let part = c.span_of-part.result in
    let same = ap (λ l. l.items) c.tokens-tokens.ensures.is in
    let marked = subst (λ (xs : List Token). All (λ x. x.skipped ≡ is_skipped language.file.skips (kind_in x)) xs) (sym same) current.tokens.marked in
    let there = subst (λ (xs : List Token). IsSomeAnd (slice_get (placed_parts language.file (map plain xs)) c.args.number)
    (λ x. (part.start ≡ x.start) × (part.end ≡ end_of x) × (part.kind ≡ x.token.kind))) same (c.span_of-part.ensures language.file.skips marked) in
    let length_is : c.len-end.result ≡ length d.text = c.len-end.ensures.count ∙ ap length c.characters.ensures in
    let end = c.min-end.ensures ∙ ap (min part.end) length_is in
    let start = c.min.ensures ∙ ap (min part.start) end in
    (λ i. (start i, end i)) ∙ stands language d current c.args.number part.start part.end (λ x. part.kind ≡ x.token.kind) there
