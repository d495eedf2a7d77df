use Rattle.completion.proofs.Std.{◌+◌, ◌-◌, ◌<◌, ◌≤◌, ◌≡◌, ◌∙◌, ℕ, IsTrue, List, MatchOption, Some, ap, arith, false, inl, inr, length, nat_lt, slice_get, slice_range, subst, sym, take, sum_by-take-le}
use Rattle.completion.proofs.Common.{get_none, tokens_length, IsLetter, IsPiece, Kind, Token, characters, tot, typed}
use Rattle.completion.proofs.Matches.{none_after}
use Rattle.completion.proofs.Splits.{Stands, characters_on, ends_nowhere, ends_with, found, found_within, sum_exact}
use Rattle.completion.proofs.places.tokens_before.Goals.{After-locate-count}
use Rattle.completion.proofs.places.tokens_before.Goals as goal

-- what the place says that was looked up
found_at : (c : After-locate-count) → let items = c.args.tokens.now.items in
    (c.locate-count.result.0 < length items) × (c.locate-count.result.1.characters ≡ characters (take c.locate-count.result.0 items))
    × ((x : Token) → slice_get items c.locate-count.result.0 ≡ Some x → Stands items c.args.offset c.locate-count.result.0 x)
    × (characters items ≡ length c.args.text.now)
found_at c =
    let (rules, automaton, tokens) = c.requires.automaton in
    let items : List Token = c.args.tokens.now.items in
    let o = c.args.offset in
    let i = c.locate-count.result.0 in
    let sum = c.locate-count.result.1 in
    let whole : characters items ≡ length c.args.text.now = tokens_length rules c.args.text.now items tokens in
    let some : 1 ≤ o = omega (arith, c.if-offset-eq0.false) in
    let inside : o ≤ characters items = omega (arith, whole, c.requires.within) in
    let few : characters items ≤ 4294967295 = omega (arith, whole, c.len-length.ensures.count, c.len-length.ensures.few) in
    let is : sum ≡ tot (take i items) = c.locate-count.ensures.before ∙ ap (λ (xs : List Token). tot (take i xs)) c.items.ensures in
    let before = subst (λ (xs : List Token). (k : ℕ) → k < i → nat_lt (o - 1) (tot (take (k + 1) xs)).characters ≡ false) c.items.ensures c.locate-count.ensures.not_before in
    let reached = subst (λ (xs : List Token). i < length xs → IsTrue (nat_lt (o - 1) (tot (take (i + 1) xs)).characters)) c.items.ensures c.locate-count.ensures.reached in (
      found_within items o i sum some inside few is before reached,
      sum_exact items o i sum some inside few is before reached,
      found items o i sum some inside few is before reached,
      whole,
    )

pub unreachable-requires : goal.unreachable-requires
unreachable-requires c =
    let here = found_at (goal.at.unreachable-requires c).After-locate-count in
    get_none c.args.tokens.now.items c.locate-count.result.0 here.0 (sym c.token.ensures ∙ c.in_default.is)

pub kind_of_part-requires-clause-ordered : goal.kind_of_part-requires-clause-ordered
kind_of_part-requires-clause-ordered c =
    let here = found_at (goal.at.kind_of_part-requires-clause-ordered c).After-locate-count in
    let stands = here.2 c.in-Some.token (sym c.token.ensures ∙ c.in-Some.is) in
    omega (arith, here.1, stands.below, stands.above)

pub kind_of_part-requires-clause-within : goal.kind_of_part-requires-clause-within
kind_of_part-requires-clause-within c =
    let items : List Token = c.args.tokens.now.items in
    let i = c.locate-count.result.0 in
    let here = found_at (goal.at.kind_of_part-requires-clause-within c).After-locate-count in
    let on = characters_on items i c.in-Some.token (sym c.token.ensures ∙ c.in-Some.is) in
    let part : characters (take (i + 1) items) ≤ characters items = sum_by-take-le (λ x. x.length) items (i + 1) in
    omega (arith, here.1, here.3, on, part)

pub returns-then-is_some : goal.returns-then-is_some
returns-then-is_some c rules automaton tokens =
    let items : List Token = c.args.tokens.now.items in
    let t = c.args.text.now in
    let o = c.args.offset in
    let x = c.in-Some.token in
    let last = c.in_ok-last.last in
    let here = found_at (goal.at.returns-then-is_some c).After-locate-count in
    let stands = here.2 x (sym c.token.ensures ∙ c.in-Some.is) in
    let Found : ℕ → Type 0 = λ s. MatchOption last ((c' : ℕ) (kind : Kind) → IsLetter c' → ¬ IsPiece rules (typed (o - s) c' (slice_range t s (s + x.length))) kind (o - s))
    (λ kind. (c' : ℕ) × IsLetter c' × IsPiece rules (typed (o - s) c' (slice_range t s (s + x.length))) kind (o - s)) in
    let found : Found c.locate-count.result.1.characters = c.in_ok-last.ensures rules automaton in
    (omega (arith, here.0), inr (ends_with rules t items o c.locate-count.result.0 x stands last (sym c.is_some.ensures ∙ c.if-is_some.true) (subst Found here.1 found)))

pub returns : goal.returns
returns c rules automaton tokens kinds before =
    let items : List Token = c.args.tokens.now.items in
    let t = c.args.text.now in
    let o = c.args.offset in
    let x = c.in-Some.token in
    let here = found_at (goal.at.returns c).After-locate-count in
    let stands = here.2 x (sym c.token.ensures ∙ c.in-Some.is) in
    let None : ℕ → Type 0 = λ s. (c' : ℕ) (kind : Kind) → IsLetter c' → ¬ IsPiece rules (typed (o - s) c' (slice_range t s (s + x.length))) kind (o - s) in
    let none : None c.locate-count.result.1.characters = none_after _ _ c.in_ok-last.last (sym c.is_some.ensures ∙ c.if-is_some.false) (c.in_ok-last.ensures rules automaton) in
    elim before [
      | inl first ↦ absurd (c.if-offset-eq0.false first.0)
      | inr ends ↦ ends_nowhere rules t items o c.locate-count.result.0 x stands (subst None here.1 none) kinds ends
    ]
