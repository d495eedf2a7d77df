use Rattle.pieces.proofs.Std.{◌≡◌, ◌≤◌, ℕ, List, [], ◌∷◌, ◌++◌, arith, refl, sym, ap, subst, ◌∙◌, chars, YieldsList-from_chars, chars-IsAscii}
use Rattle.pieces.proofs.Common.{units, Utf8, sums_of, joined, line_sums, most, sums_laws}
use Rattle.pieces.proofs.Joins.{sums_of-more, units-chars}
use Rattle.pieces.proofs.Lines.{joined-line-more, line-room}
use Rattle.pieces.proofs.KnownPrefix.{few_prefix}
use Rattle.pieces.proofs.CharacterLoops.{turn-from, all-from, few-turn}
use Rattle.pieces.proofs.sums.of_text.Goals as goal

pub with_character-line-requires : goal.with_character-line-requires
with_character-line-requires c =
    let t : List ℕ = chars c.args.text.now in
    let whole : units Utf8 t ≤ most = omega (arith, units-chars c.args.text.now c.utf8.text, c.requires) in
    let yielded : List ℕ = c.loop-c.yielded in
    let turn = turn-from (YieldsList-from_chars c.args.text.now c.utf8.text cc) c.loop-c.yielded _ c.loop-c.yielded_by _ _ c.in-Some.c c.in-Some.is c.next.ensures.steps in
    let fits : units Utf8 (yielded ++ c.in-Some.c ∷ []) ≤ most = few-turn [] most turn whole in
    line-room c.loop-c.sums c.loop-c.line yielded c.in-Some.c (c.loop-c.invariant (few_prefix yielded c.in-Some.c most fits)) fits

pub loop-c-preserved : goal.loop-c-preserved
loop-c-preserved c = λ fits.
    joined-line-more c.loop-c.sums c.loop-c.line c.with_character-line.result c.in-Some.c c.if-c-eq13.false.0 c.if-c-eq13.false.1 c.with_character-line.ensures
    ∙ sums_of-more c.loop-c.yielded c.in-Some.c (joined c.loop-c.sums (line_sums c.loop-c.line)) (sums_of (c.in-Some.c ∷ [])) c.loop-c.invariant refl fits

pub loop-c-preserved-then-c-eq13 : goal.loop-c-preserved-then-c-eq13
loop-c-preserved-then-c-eq13 c = λ fits.
    ap (λ u. joined c.join-sums.result (line_sums u)) c.no_units-line-then-c-eq13.ensures
    ∙ sums_laws.right_unit c.join-sums.result
    ∙ c.join-sums.ensures
    ∙ sums_of-more c.loop-c.yielded c.in-Some.c c.join.result c.of_character.result
    (λ few. c.join.ensures ∙ ap (joined c.loop-c.sums) c.of_line.ensures ∙ c.loop-c.invariant few) c.of_character.ensures fits

pub returns-then-is_ascii : goal.returns-then-is_ascii
returns-then-is_ascii c = c.of_ascii.ensures ∙ ap sums_of (c.as_bytes.ensures.value ∙ sym (chars-IsAscii c.args.text.now c.if-is_ascii.ensures.cases))

pub returns : goal.returns
returns c =
    let whole : chars c.args.text.now ≡ c.loop-c.yielded =
    sym (all-from (YieldsList-from_chars c.args.text.now c.utf8.text cc) c.loop-c.yielded _ c.loop-c.yielded_by _ _ c.in-None.is c.next.ensures.steps) in
    let fits : units Utf8 c.loop-c.yielded ≤ most = subst (λ t. units Utf8 t ≤ most) whole (subst (λ n. n ≤ most) (sym (units-chars c.args.text.now c.utf8.text)) c.requires) in
    c.join-2.ensures ∙ ap (joined c.loop-c.sums) c.of_line-2.ensures ∙ c.loop-c.invariant fits ∙ ap sums_of (sym whole)
