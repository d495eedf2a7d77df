use Rattle.completion.proofs.Std.{◌++◌, ◌≡◌, ◌≤◌, ◌∙◌, All, IfOk, IfOk-weaker, List, MatchOption, ap, length, map, option_to_list, subst, sym, take}
use Rattle.completion.proofs.Common.{is_skipped, kind_in, unskipped, AreBefore, AreExpected, AreTokens, Kind, Token, plain, significant_kinds}
use Rattle.completion.specs.Mended.{GoOnAs}
use Rattle.completion.proofs.Followers.{AreFollowing, kinds_before, nothing_follows, these_follow}
use Rattle.completion.proofs.Matches.{of_none, of_some}
use Rattle.completion.proofs.following.following.Goals.{In_ok-found}
use Rattle.completion.proofs.following.following.Goals as goal

-- what was found before the offset
found_is : (c : In_ok-found) → let Are = AreBefore c.args.language.now.file.patterns c.characters-text.result.now (map plain c.tokens-tokens.result.now.items) c.args.offset in
    MatchOption c.in_ok-found.found ((kinds : List Kind) → ¬ Are kinds)
    (λ b. (b.count ≤ length c.tokens-tokens.result.now.items) × Are (map kind_in (take b.count c.tokens-tokens.result.now.items) ++ option_to_list b.last))
found_is c =
    let file = c.args.language.now.file in
    let tokens : AreTokens file.patterns c.characters-text.result.now (map plain c.tokens-tokens.result.now.items) =
    subst (λ t. AreTokens file.patterns t (map plain c.tokens-tokens.result.now.items)) (sym c.characters-text.ensures) (c.tokens-tokens.ensures.tokens c.args.language.now c.requires.current) in
    c.in_ok-found.ensures file.patterns c.automaton.ensures tokens

pub returns-in_default : goal.returns-in_default
returns-in_default c =
    let doc = c.args.doc.now in
    nothing_follows c.args.language.now.file doc.text c.characters-text.result.now doc.tokens.items c.tokens-tokens.result.now.items c.args.repairs.now c.args.offset c.nothing.result
    c.characters-text.ensures (ap (λ l. l.items) c.tokens-tokens.ensures.is) c.nothing.ensures
    (of_none _ _ c.in_ok-found.found c.in_default.is (found_is (goal.at.returns-in_default c).In_ok-found))

pub returns : goal.returns
returns c =
    let file = c.args.language.now.file in
    let doc = c.args.doc.now in
    let repairs = c.args.repairs.now in
    let items = c.tokens-tokens.result.now.items in
    let same : items ≡ doc.tokens.items = ap (λ l. l.items) c.tokens-tokens.ensures.is in
    let there = of_some _ _ c.in_ok-found.found c.in-Some.before c.in-Some.is (found_is (goal.at.returns c).In_ok-found) in
    let marked = subst (All (λ x. x.skipped ≡ is_skipped file.skips (kind_in x))) (sym same) c.requires.current.tokens.marked in
    let last = c.unless_skipped-last.ensures ∙ ap (λ g. unskipped g.skips (option_to_list c.in-Some.before.last)) c.grammar.ensures in
    let kinds = kinds_before file.skips items c.in-Some.before.count c.in-Some.before.last c.unless_skipped-last.result marked last in
    let g = c.tables.result.now.grammar in
    let rules : g ≡ file.grammar = ap (λ s. s.grammar) c.tables.ensures.is ∙ c.tables.ensures.grammar in
    let these : List Token → List Kind = λ xs. significant_kinds (take c.in-Some.before.count xs) ++ option_to_list c.unless_skipped-last.result in
    IfOk-weaker c.expected.result _ (AreFollowing file doc.text doc.tokens.items repairs c.args.offset)
    (λ looks h. these_follow file doc.text c.characters-text.result.now doc.tokens.items items repairs c.args.offset looks
    (map kind_in (take c.in-Some.before.count items) ++ option_to_list c.in-Some.before.last) (these items) h.0
    c.characters-text.ensures same there.1 kinds (subst (λ g. GoOnAs g repairs (these items) h.0) rules h.1) (subst (λ g. AreExpected g h.0 looks) rules h.2))
    (subst (λ (xs : List Token). IfOk c.expected.result (λ looks. (others : List Kind) × GoOnAs g repairs (these xs) others × AreExpected g others looks))
    (sym same) c.expected.ensures)
