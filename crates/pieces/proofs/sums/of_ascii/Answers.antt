use Rattle.pieces.proofs.Std.{arith, sym, ap, ◌∙◌, ◌≡◌, ◌+◌, ◌≤◌, ℕ, List, [], ◌∷◌, ◌++◌, take, slice_index, take_more}
use Rattle.pieces.proofs.Common.{units, Utf8, sums_of, most, joined, line_sums, ascii_units, sums_laws}
use Rattle.pieces.proofs.Joins.{sums_of-more}
use Rattle.pieces.proofs.Lines.{ascii-more, ascii-fits}
use Rattle.pieces.proofs.sums.of_ascii.Goals as goal
use Rattle.pieces.proofs.sums.of_ascii.Goals.{then-byte-le13+then-byte-eq13, else-byte-le13, else-byte-le13-via-then-byte-le13+else-byte-eq13, else-byte-le13-via-else-byte-le13}

pub loop-byte-preserved : goal.loop-byte-preserved
loop-byte-preserved c =
    let t : List ℕ = c.args.text.now in
    let n : ℕ = c.loop-byte.byte-index in
    let next : take (n + 1) t ≡ take n t ++ slice_index t n ∷ [] = take_more t n 0 c.loop-byte-test.true in
    let fits : units Utf8 (take n t ++ slice_index t n ∷ []) ≤ most = ascii-fits t n (slice_index t n) c.requires.ascii c.requires.few next in
    elim c.if-byte-le13.branch [
      | then-byte-le13+then-byte-eq13 w ↦ record {
        few = omega (arith, w.line-is);
        summed =
            (λ i. joined (w.sums-is i) (line_sums (ascii_units (w.line-is i))))
            ∙ sums_laws.right_unit w.join-sums.result
            ∙ w.join-sums.ensures
            ∙ sums_of-more (take n t) (slice_index t n) w.join.result w.of_character.result
            (λ few. w.join.ensures ∙ ap (joined c.loop-byte.sums) (w.of_line.ensures ∙ ap line_sums w.ascii_units.ensures) ∙ c.loop-byte.invariant.summed) w.of_character.ensures fits
            ∙ ap sums_of (sym next);
      }
      | else-byte-le13 w ↦
          let other : ¬ (slice_index t n ≡ 10) × ¬ (slice_index t n ≡ 13) =
          elim w.else-byte-le13.branch [
            | else-byte-le13-via-then-byte-le13+else-byte-eq13 v ↦ v.if-byte-eq13.false
            | else-byte-le13-via-else-byte-le13 v ↦ (omega (arith, v.if-byte-le13.false), omega (arith, v.if-byte-le13.false))
          ] in
          record {
            few = omega (arith, w.line-is, c.loop-byte.invariant.few);
            summed =
                (λ i. joined (w.sums-is i) (line_sums (ascii_units (w.line-is i))))
                ∙ ascii-more c.loop-byte.sums c.loop-byte.line (take n t) (slice_index t n) (c.requires.ascii n) other.0 other.1
                (omega (arith, c.loop-byte.invariant.few, c.loop-byte-test.true, c.requires.few)) c.loop-byte.invariant.summed fits
                ∙ ap sums_of (sym next);
          }
    ]
