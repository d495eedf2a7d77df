use Rattle.pieces.proofs.Std.{arith, sym, ap, ◌∙◌, ◌≡◌, ◌+◌, ◌-◌, [], length, take, drop, Some, None, slice_get, option_copied, chars, chars-nil}
use Rattle.pieces.proofs.Common.{units, Utf8, within_chunks, inside, cut_in, cut_at_end, IsCut}
use Rattle.pieces.proofs.CutAt.{prefix_le}
use Rattle.pieces.proofs.Joins.{units-nil, units-append}
use Rattle.pieces.proofs.LocatedPiece.{sum-before, offset-reached, offset-not_before}
use Rattle.pieces.proofs.Summed.{text_before}
use Rattle.pieces.proofs.places.Pieces.cut_at.Goals as goal

pub overflow_sub-offset : goal.overflow_sub-offset
overflow_sub-offset c =
    let ps = c.seq-pieces.result.now in
    let i = c.find-found.result.place in
    let starts = offset-not_before ps c.seq-pieces.ensures.fits (record { offset = c.args.offset }) i c.find-found.ensures.not_before in
    omega (arith, starts, c.characters_in.ensures (text_before ps i) (c.find-found.ensures.before ∙ sum-before ps c.seq-pieces.ensures.fits i))

pub split-requires : goal.split-requires
split-requires c =
    let ps = c.seq-pieces.result.now in
    let i = c.find-found.result.place in
    let p = c.in-Some.piece.now in
    let at : Some p ≡ slice_get ps i = ap option_copied (sym c.in-Some.is) ∙ c.find-found.ensures.item in
    let starts = offset-not_before ps c.seq-pieces.ensures.fits (record { offset = c.args.offset }) i c.find-found.ensures.not_before in
    let ends = offset-reached ps c.seq-pieces.ensures.fits (record { offset = c.args.offset }) (i + 1) (c.find-found.ensures.reached (within_chunks ps i p at)) in
    omega (arith, c.characters_in.ensures (text_before ps i) (c.find-found.ensures.before ∙ sum-before ps c.seq-pieces.ensures.fits i), inside (λ q. q) ps i p at c.args.offset starts ends)

pub overflow_add-result : goal.overflow_add-result
overflow_add-result c =
    let ps = c.seq-pieces.result.now in
    let i = c.find-found.result.place in
    let p = c.in-Some.piece.now in
    let at : Some p ≡ slice_get ps i = ap option_copied (sym c.in-Some.is) ∙ c.find-found.ensures.item in
    omega (
      arith,
      c.bytes_in-before_place.ensures (text_before ps i) (c.find-found.ensures.before ∙ sum-before ps c.seq-pieces.ensures.fits i),
      c.split.ensures.bytes,
      c.seq-pieces.ensures.fits,
      prefix_le ps i p at (c.args.offset - c.characters_in.result),
    )

pub returns : goal.returns
returns c =
    let ps = c.seq-pieces.result.now in
    let o = c.args.offset in
    let i = c.find-found.result.place in
    let p = c.in-Some.piece.now in
    let at : Some p ≡ slice_get ps i = ap option_copied (sym c.in-Some.is) ∙ c.find-found.ensures.item in
    let starts = offset-not_before ps c.seq-pieces.ensures.fits (record { offset = o }) i c.find-found.ensures.not_before in
    let ends = offset-reached ps c.seq-pieces.ensures.fits (record { offset = o }) (i + 1) (c.find-found.ensures.reached (within_chunks ps i p at)) in
    let sum = c.find-found.ensures.before ∙ sum-before ps c.seq-pieces.ensures.fits i in
    let count : c.characters_in.result ≡ length (text_before ps i) = c.characters_in.ensures (text_before ps i) sum in
    let cut = cut_in (λ q. q) ps i p at o starts ends (chars c.split.result.0.now) (chars c.split.result.1.now)
    (c.split.ensures.prefix ∙ ap (λ n. take (o - n) p) count) (c.split.ensures.back ∙ ap (λ n. drop (o - n) p) count) in
    let is : IsCut ps o _ = record {
      at = cut;
      few = omega (arith, cut.within, c.seq-pieces.ensures.few, c.seq-pieces.ensures.fits);
      bytes = omega (
        arith,
        c.bytes_in-before_place.ensures (text_before ps i) sum,
        c.split.ensures.bytes,
        ap (units Utf8) c.split.ensures.prefix,
        ap (units Utf8) cut.before,
        units-append Utf8 (text_before ps i) (chars c.split.result.0.now),
      );
    } in
    rw (← c.seq-pieces.ensures.same) is

pub returns-in_default : goal.returns-in_default
returns-in_default c =
    let ps = c.seq-pieces.result.now in
    let o = c.args.offset in
    let i = c.find-found.result.place in
    let none : slice_get ps i ≡ None = sym c.find-found.ensures.item ∙ ap option_copied c.in_default.is in
    let starts = offset-not_before ps c.seq-pieces.ensures.fits (record { offset = o }) i c.find-found.ensures.not_before in
    let sum = c.find-found.ensures.before ∙ sum-before ps c.seq-pieces.ensures.fits i in
    let cut = cut_at_end (λ q. q) ps o i none starts (chars []) (chars []) c.find-found.ensures.within chars-nil chars-nil in
    let is : IsCut ps o _ = record {
      at = cut;
      few = omega (arith, cut.within, c.seq-pieces.ensures.few, c.seq-pieces.ensures.fits);
      bytes = omega (
        arith,
        c.bytes_in-before_place.ensures (text_before ps i) sum,
        ap (units Utf8) cut.before,
        units-append Utf8 (text_before ps i) (chars []),
        ap (units Utf8) chars-nil,
        units-nil Utf8,
      );
    } in
    rw (← c.seq-pieces.ensures.same) is
