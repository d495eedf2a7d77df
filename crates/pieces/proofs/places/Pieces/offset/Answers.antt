use Rattle.pieces.proofs.Std.{chars, append_assoc, arith, sym, ap, subst, ◌∙◌, cond, ◌≡◌, ◌-◌, ◌+◌, ◌^◌, ◌≤◌, ◌&&◌, ◌==◌, ℕ, List, ◌++◌, drop, Some, slice_get, option_copied}
use Rattle.pieces.proofs.Common.{text_in, offset, units, Utf8, IsPast, end_before_feed, all_before, within_chunks, prefix-more, whole_at}
use Rattle.pieces.proofs.LocatedPiece.{sum-before, position-reached, position-not_before}
use Rattle.pieces.proofs.Offsets.{offset-end}
use Rattle.pieces.proofs.PastTheEnd.{offset-within}
use Rattle.pieces.proofs.Summed.{text_before, few_before}
use Rattle.pieces.proofs.places.Pieces.offset.Goals as goal

pub returns-in_default-clause-is : goal.returns-in_default-clause-is
returns-in_default-clause-is c =
    let pieces : List (List ℕ) = c.seq-pieces.result.now in
    let place : ℕ = c.find-found.result.place in
    let before : List ℕ = text_before pieces place in
    let known = c.new-prefix.ensures before (c.find-found.ensures.before ∙ sum-before pieces c.seq-pieces.ensures.fits place) in
    let not_past = position-not_before pieces c.seq-pieces.ensures.fits (record { unit = c.args.unit; position = c.args.position }) place c.find-found.ensures.not_before in
    c.end_in_line.ensures
    ∙ ap (λ f. f.characters - cond (f.ends_with_return && (f.end.line == c.args.position.line)) 1 0) known
    ∙ sym (offset-end c.args.unit c.args.position before not_past)
    ∙ ap (λ l. offset c.args.unit l c.args.position) (all_before (λ q. q) pieces place (sym c.find-found.ensures.item ∙ ap option_copied c.in_default.is) ∙ ap text_in c.seq-pieces.ensures.same)

pub returns-in_default-clause-within : goal.returns-in_default-clause-within
returns-in_default-clause-within c = omega (arith, returns-in_default-clause-is c, offset-within c.args.unit (text_in c.args.self.now) c.args.position)

pub returns-clause-is : goal.returns-clause-is
returns-clause-is c =
    let pieces : List (List ℕ) = c.seq-pieces.result.now in
    let place : ℕ = c.find-found.result.place in
    let piece : List ℕ = c.in-Some.piece.now in
    let there : Some piece ≡ slice_get pieces place = ap option_copied (sym c.in-Some.is) ∙ c.find-found.ensures.item in
    let before : List ℕ = text_before pieces place in
    let after : List ℕ = text_in (drop (place + 1) pieces) in
    let known = c.new-prefix.ensures before (c.find-found.ensures.before ∙ sum-before pieces c.seq-pieces.ensures.fits place) in
    let not_past = position-not_before pieces c.seq-pieces.ensures.fits (record { unit = c.args.unit; position = c.args.position }) place c.find-found.ensures.not_before in
    let reached = position-reached pieces c.seq-pieces.ensures.fits (record { unit = c.args.unit; position = c.args.position }) (place + 1)
    (c.find-found.ensures.reached (within_chunks pieces place piece there)) in
    let more : text_before pieces (place + 1) ≡ before ++ chars c.text.result.now =
    prefix-more (λ q. q) pieces place piece there ∙ ap (λ l. before ++ l) (sym c.text.ensures.characters) in
    let fits : units Utf8 (before ++ chars c.text.result.now) ≤ 2 ^ 30 = subst (λ l. units Utf8 l ≤ 2 ^ 30) more (few_before pieces (place + 1) (2 ^ 30) c.seq-pieces.ensures.fits) in
    let past : IsPast c.args.position (end_before_feed c.args.unit (before ++ chars c.text.result.now)) = subst (λ l. IsPast c.args.position (end_before_feed c.args.unit l)) more reached in
    c.offset_in.ensures before after fits known not_past past
    ∙ ap (λ l. offset c.args.unit l c.args.position)
    (ap (λ l. before ++ l ++ after) c.text.ensures.characters ∙ append_assoc before piece after ∙ whole_at (λ q. q) pieces place piece there ∙ ap text_in c.seq-pieces.ensures.same)

pub returns-clause-within : goal.returns-clause-within
returns-clause-within c = omega (arith, returns-clause-is c, offset-within c.args.unit (text_in c.args.self.now) c.args.position)
