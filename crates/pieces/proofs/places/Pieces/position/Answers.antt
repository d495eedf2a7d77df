use Rattle.pieces.proofs.Std.{chars, append-nil, arith, refl, sym, ap, subst, ◌∙◌, ◌≡◌, ◌-◌, ◌+◌, ◌^◌, ◌<◌, ◌≤◌, ℕ, List, ◌++◌, [], length, take, drop, Some, slice_get, option_copied}
use Rattle.pieces.proofs.Common.{text_in, position, units, begins_with, Utf8, prefix_of, all_before, within_chunks, prefix-more, whole_at}
use Rattle.pieces.proofs.LocatedPiece.{sum-before, offset-reached, offset-not_before, cut-text, cut-length, cut-next}
use Rattle.pieces.proofs.PastTheEnd.{position-past}
use Rattle.pieces.proofs.Summed.{text_before, few_before}
use Rattle.pieces.proofs.CharacterLoops.{few-take}
use Rattle.pieces.proofs.places.Pieces.position.Goals as goal

pub returns-in_default : goal.returns-in_default
returns-in_default c =
    let pieces : List (List ℕ) = c.seq-pieces.result.now in
    let place : ℕ = c.find-found.result.place in
    let before : List ℕ = text_before pieces place in
    let few = few_before pieces place (2 ^ 30) c.seq-pieces.ensures.fits in
    let known = c.new-prefix.ensures before (c.find-found.ensures.before ∙ sum-before pieces c.seq-pieces.ensures.fits place) in
    let whole : before ≡ text_in pieces = all_before (λ q. q) pieces place (sym c.find-found.ensures.item ∙ ap option_copied c.in_default.is) in
    let past : length (text_in pieces) ≤ c.args.offset =
    omega (arith, offset-not_before pieces c.seq-pieces.ensures.fits (record { offset = c.args.offset }) place c.find-found.ensures.not_before, ap length whole) in
    c.position.ensures c.args.unit before [] few known refl
    ∙ ap (λ l. position c.args.unit l (length before)) (append-nil before)
    ∙ ap (λ l. position c.args.unit l (length l)) whole
    ∙ position-past c.args.unit (text_in pieces) c.args.offset past
    ∙ ap (λ ps. position c.args.unit (text_in ps) c.args.offset) c.seq-pieces.ensures.same

pub overflow_sub-offset : goal.overflow_sub-offset
overflow_sub-offset c =
    let pieces : List (List ℕ) = c.seq-pieces.result.now in
    let place : ℕ = c.find-found.result.place in
    let known = c.new-prefix.ensures (text_before pieces place) (c.find-found.ensures.before ∙ sum-before pieces c.seq-pieces.ensures.fits place) in
    omega (arith, offset-not_before pieces c.seq-pieces.ensures.fits (record { offset = c.args.offset }) place c.find-found.ensures.not_before, ap (λ f. f.characters) known)

pub returns : goal.returns
returns c =
    let pieces : List (List ℕ) = c.seq-pieces.result.now in
    let place : ℕ = c.find-found.result.place in
    let piece : List ℕ = c.in-Some.piece.now in
    let there : Some piece ≡ slice_get pieces place = ap option_copied (sym c.in-Some.is) ∙ c.find-found.ensures.item in
    let before : List ℕ = text_before pieces place in
    let after : List ℕ = text_in (drop (place + 1) pieces) in
    let n : ℕ = c.args.offset - c.new-prefix.result.characters in
    let known = c.new-prefix.ensures before (c.find-found.ensures.before ∙ sum-before pieces c.seq-pieces.ensures.fits place) in
    let same : n ≡ c.args.offset - length before = ap (λ f. c.args.offset - f.characters) known in
    let low : length before ≤ c.args.offset = offset-not_before pieces c.seq-pieces.ensures.fits (record { offset = c.args.offset }) place c.find-found.ensures.not_before in
    let reached : c.args.offset < length (text_before pieces (place + 1)) =
    offset-reached pieces c.seq-pieces.ensures.fits (record { offset = c.args.offset }) (place + 1) (c.find-found.ensures.reached (within_chunks pieces place piece there)) in
    let more : text_before pieces (place + 1) ≡ before ++ piece = prefix-more (λ q. q) pieces place piece there in
    let high : c.args.offset < length (before ++ piece) = omega (arith, reached, ap length more) in
    let fits : units Utf8 (before ++ piece) ≤ 2 ^ 30 = subst (λ l. units Utf8 l ≤ 2 ^ 30) more (few_before pieces (place + 1) (2 ^ 30) c.seq-pieces.ensures.fits) in
    let text : chars c.text.result.now ≡ piece = c.text.ensures.characters in
    let prefix = c.with_first-before_feed.ensures.prefix before (subst (λ l. units Utf8 (before ++ l) ≤ 2 ^ 30) (sym text) fits) known ∙ ap (λ l. prefix_of c.args.unit (before ++ take n l)) text in
    let next = c.with_first-before_feed.ensures.feed ∙ ap (λ l. begins_with 10 (drop n l)) text ∙ cut-next before piece after n c.args.offset same low high in
    c.position-2.ensures c.args.unit (before ++ take n piece) (drop n piece ++ after) (few-take before piece n (2 ^ 30) fits) prefix next
    ∙ ap (λ l. position c.args.unit l (length (before ++ take n piece))) (cut-text before piece after n ∙ whole_at (λ q. q) pieces place piece there)
    ∙ ap (λ o. position c.args.unit (text_in pieces) o) (cut-length before piece n c.args.offset same low high)
    ∙ ap (λ ps. position c.args.unit (text_in ps) c.args.offset) c.seq-pieces.ensures.same
