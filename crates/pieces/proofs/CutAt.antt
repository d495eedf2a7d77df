-- What lies before and after a cut of a text in pieces.
use Rattle.pieces.proofs.Std.{chars, sym, ap, inl, inr, ◌⊎◌, ◌∙◌, ◌≡◌, ℕ, ◌+◌, ◌<◌, ◌≤◌, List, ◌++◌, Option, Some, None, length, take, drop, slice_index, slice_get, encode_utf8, encode_utf8_all, MatchOption}
use Rattle.pieces.proofs.Std.{cases_lt, take-append-drop, drop_more, encode_same, length-encode, len_utf8_bounds, length-le-encodes, arith, length-append, length-take}
use Rattle.pieces.proofs.Common.{text_in, whole_at, none_after, units, Utf8, Cut, IsCut}
use Rattle.std.proofs.Common.{length-drop}
use Rattle.pieces.proofs.Joins.{units-append, units-bytes}
use Rattle.pieces.proofs.Summed.{text_before}

-- a step of a reader of characters
pub stepped : (P : Type 0) (t xs ys : List ℕ) (k : ℕ) (r : Option ℕ) → k < length t → xs ≡ encode_utf8_all (drop k t)
    → MatchOption r ((length xs ≡ 0) × P) (λ c. xs ≡ encode_utf8 c ++ ys) → ys ≡ encode_utf8_all (drop (k + 1) t)
stepped P t xs ys k None l e h =
    let next : xs ≡ encode_utf8 (slice_index t k) ++ encode_utf8_all (drop (k + 1) t) = e ∙ ap encode_utf8_all (drop_more t k 0 l) in
    absurd (omega (arith, h.0, ap length next, length-append (encode_utf8 (slice_index t k)) (encode_utf8_all (drop (k + 1) t)), length-encode (slice_index t k), len_utf8_bounds (slice_index t k)))
stepped P t xs ys k (Some c) l e h =
    let next : xs ≡ encode_utf8 (slice_index t k) ++ encode_utf8_all (drop (k + 1) t) = e ∙ ap encode_utf8_all (drop_more t k 0 l) in
    (encode_same c (slice_index t k) ys (encode_utf8_all (drop (k + 1) t)) (sym h ∙ next)).1

units-ge : (t : List ℕ) → length t ≤ units Utf8 t
units-ge t = omega (arith, length-le-encodes t, units-bytes t)

-- where each character has one byte, as many have as many
pub one_byte : (t : List ℕ) (n : ℕ) → n ≤ length t → units Utf8 t ≡ length t → n ≡ units Utf8 (take n t)
one_byte t n l e =
    let whole : units Utf8 (take n t) + units Utf8 (drop n t) ≡ units Utf8 t = sym (units-append Utf8 (take n t) (drop n t)) ∙ ap (units Utf8) (take-append-drop n t) in
    let long : length (take n t) + length (drop n t) ≡ length t = sym (length-append (take n t) (drop n t)) ∙ ap length (take-append-drop n t) in
    omega (arith, whole, long, e, l, units-ge (take n t), units-ge (drop n t), length-take n t)

-- a prefix of a piece fits where the text does
pub prefix_le : (ps : List (List ℕ)) (i : ℕ) (p : List ℕ) → Some p ≡ slice_get ps i → (n : ℕ) → units Utf8 (text_before ps i) + units Utf8 (take n p) ≤ units Utf8 (text_in ps)
prefix_le ps i p at n =
    let ahead : List ℕ = text_in (drop (i + 1) ps) in
    omega (
      arith,
      ap (units Utf8) (whole_at (λ q. q) ps i p at),
      units-append Utf8 (text_before ps i) (p ++ ahead),
      units-append Utf8 p ahead,
      ap (units Utf8) (take-append-drop n p),
      units-append Utf8 (take n p) (drop n p),
    )

-- where there is a character at the offset, it stands after the cut in its piece
pub some_after : (ps : List (List ℕ)) (o : ℕ) (cut : Cut) → IsCut ps o cut → o < length (text_in ps) → 1 ≤ length (chars cut.back.now)
some_after ps o cut is l = go (cases_lt 0 (length (chars cut.back.now)))
  where
    go : (0 < length (chars cut.back.now)) ⊎ (length (chars cut.back.now) ≤ 0) → 1 ≤ length (chars cut.back.now)
    go (inl m) = omega (arith, m)
    go (inr m) =
        let none = none_after (λ q. q) ps o cut.piece (chars cut.prefix.now) (chars cut.back.now) is.at (omega (arith, m)) in
        absurd (omega (arith, l, m, none, ap length is.at.after, length-drop o (text_in ps), length-append (chars cut.back.now) (text_in (drop (cut.piece + 1) ps))))
