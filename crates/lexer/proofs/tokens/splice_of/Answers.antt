use Rattle.lexer.proofs.Std.{refl, sym, ap, ◌≡◌, ◌∙◌, ℕ, true, false, List, [], take, count_by, slice_range}
use Rattle.lexer.proofs.Common.{Kind, same_kinds, is_significant, significant_kinds, change, Token}
use Rattle.lexer.proofs.tokens.splice_of.Goals as goal

same_change : (xs : List Token) (kept_before to from : ℕ) (kinds : List Kind) → from ≡ count_by is_significant (take kept_before xs)
    → same_kinds (significant_kinds (slice_range xs kept_before to)) kinds ≡ true
    → record { from = from; to = from; kinds = [] } ≡ change xs kept_before to kinds
same_change xs kept_before to from kinds f e = rw (e, f) refl

other_change : (xs : List Token) (kept_before to from past : ℕ) (kinds : List Kind) → from ≡ count_by is_significant (take kept_before xs)
    → past ≡ count_by is_significant (take to xs) → same_kinds (significant_kinds (slice_range xs kept_before to)) kinds ≡ false
    → record { from = from; to = past; kinds = kinds } ≡ change xs kept_before to kinds
other_change xs kept_before to from past kinds f t e = rw (e, f, t) refl

pub returns-then-have_kinds : goal.returns-then-have_kinds
returns-then-have_kinds c =
    let xs = c.args.items.now in
    let from = c.args.kept.significant in
    ap (λ ks. record { from = from; to = from; kinds = ks }) c.clear.ensures.items
    ∙ same_change xs c.args.kept.count c.args.to from c.args.kinds.items c.requires.counted
    (ap (same_kinds (significant_kinds (slice_range xs c.args.kept.count c.args.to))) (sym c.deref.ensures.value) ∙ sym c.have_kinds.ensures ∙ c.if-have_kinds.true)

pub returns : goal.returns
returns c =
    let xs = c.args.items.now in
    other_change xs c.args.kept.count c.args.to c.args.kept.significant c.significant_before.result c.args.kinds.items c.requires.counted c.significant_before.ensures
    (ap (same_kinds (significant_kinds (slice_range xs c.args.kept.count c.args.to))) (sym c.deref.ensures.value) ∙ sym c.have_kinds.ensures ∙ c.if-have_kinds.false)
