use Rattle.pieces.proofs.Std.{arith, sym, ap, inl, inr, ◌∙◌, ◌≡◌, ℕ, ◌+◌, ◌-◌, ◌*◌, ◌<◌, ◌≤◌, ◌⊎◌, List, length, take, drop, string_bytes, IsUtf8, IsCharBoundary, IsUtf8-take, IsUtf8-drop, IsCharBoundary-start, cases_lt, take-append-drop, chars, chars-append, chars-nil}
use Rattle.pieces.proofs.Common.{units, Utf8, IsCutOff, sums_of}
use Rattle.std.proofs.Common.{length-drop}
use Rattle.pieces.proofs.Borders.{near, not_past}
use Rattle.pieces.proofs.Joins.{units-chars}
use Rattle.pieces.proofs.piece.PieceChunk.cut_off.Goals as goal

-- what is cut off a text at the first place that leaves at most so many bytes
module _ (bs : List ℕ) (at most : ℕ) (u : IsUtf8 bs) (b : IsCharBoundary bs at) (bound : length bs - most ≤ at)
    (none : (i : ℕ) → length bs - most ≤ i → i < at → ¬ (IsCharBoundary bs i)) (half : most < length bs → 1024 ≤ 2 * most) where
  back : units Utf8 (chars (drop at bs)) + at ≡ length bs
  back = omega (arith, units-chars (drop at bs) (IsUtf8-drop bs at u b), length-drop at bs, b.0)

  from_start : length bs ≤ most → at ≡ 0
  from_start l = omega (arith, not_past bs at (length bs - most) u (omega arith) none 0 (IsCharBoundary-start bs u) (omega (arith, l)))

  large : most < length bs → 509 ≤ units Utf8 (chars (drop at bs))
  large l = omega (arith, back, near bs at (length bs - most) u (omega arith) none, half l)

  some : 1 ≤ length bs → 1 ≤ length (drop at bs)
  some l = go (cases_lt most (length bs))
    where
      go : (most < length bs) ⊎ (length bs ≤ most) → 1 ≤ length (drop at bs)
      go (inl m) = omega (arith, large m, units-chars (drop at bs) (IsUtf8-drop bs at u b))
      go (inr m) = omega (arith, l, from_start m, length-drop at bs)

  off : IsCutOff (λ piece. piece) (units Utf8) 509 most (chars bs) (chars (take at bs)) (chars (drop at bs))
  off = record {
    parts = ap chars (sym (take-append-drop at bs)) ∙ chars-append (take at bs) (drop at bs) (IsUtf8-take bs at u b);
    short = omega (arith, back, bound);
    large = λ m. large (omega (arith, m, units-chars bs u));
    all = λ m. ap (λ k. chars (take k bs)) (from_start (omega (arith, m, units-chars bs u))) ∙ chars-nil;
  }

pub overflow_sub-text : goal.overflow_sub-text
overflow_sub-text c = rw (← units-chars c.as_str-text.result.now c.as_str-text.utf8, c.as_str-text.ensures.value) c.requires.within

size : (c : goal.After-of_text-sums) → units Utf8 (chars (string_bytes c.args.whole.now)) ≡ length c.as_str-text.result.now
size c = ap (λ bs. units Utf8 (chars bs)) (sym c.as_str-text.ensures.value) ∙ units-chars c.as_str-text.result.now c.as_str-text.utf8

halved : (c : goal.After-of_text-sums) → c.args.most < length c.as_str-text.result.now → 1024 ≤ 2 * c.args.most
halved c l = c.requires.half (omega (arith, l, size c))

pub invariant_of-result : goal.invariant_of-result
invariant_of-result c =
    let bs = c.as_str-text.result.now in
    let at = c.ceil_char_boundary-at in
    let few = at.ensures.bound (omega arith) in
    let some = some bs at.result c.args.most c.as_str-text.utf8 at.ensures.boundary few at.ensures.nearest (halved c) (omega (arith, size c, c.requires.some, c.requires.within)) in
    let is : string_bytes c.in_ok-text.text ≡ drop at.result bs = c.in_ok-text.ensures.tail ∙ ap (drop at.result) (sym c.as_str-text.ensures.value) in
    record {
      some = omega (arith, some, ap length is);
      few = omega (arith, few, ap length is, length-drop at.result bs, c.requires.fits);
      summed = c.of_text-sums.ensures ∙ ap (λ t. sums_of (chars t)) c.as_str.ensures.value;
    }

pub returns : goal.returns
returns c =
    let bs = c.as_str-text.result.now in
    let at = c.ceil_char_boundary-at in
    rw (c.in_ok-text.ensures.bytes, c.in_ok-text.ensures.tail, ← c.as_str-text.ensures.value)
    (off bs at.result c.args.most c.as_str-text.utf8 at.ensures.boundary (at.ensures.bound (omega arith)) at.ensures.nearest (halved c))
