-- What the place of a piece that was looked for says of the text.
use Rattle.pieces.proofs.Std.{ltb-true, ltb-false, lt-ltb, eqb-true, eq-eqb, or_cases, or_left, or_right, and_from, and_parts, false≢true, append_assoc, take-append-drop, arith, length-append, length-take}
use Rattle.pieces.proofs.Std.{refl, sym, ap, inl, inr, ◌∙◌, ◌≡◌, ℕ, zero, suc, ◌+◌, ◌-◌, ◌^◌, ◌<◌, ◌≤◌, ◌⊎◌, Bool, true, false, ◌&&◌, ◌==◌, nat_lt, List, [], ◌∷◌, ◌++◌, length, take, drop}
use Rattle.pieces.proofs.Common.{text_in, total, Position, Utf8, begins_with, units, Sums, Empty, AfterCharacter, AfterPosition, sums_of, joined, most, end_before_feed, count_of, counts_of, is_after_character, is_after_position, IsPast}
use Rattle.pieces.proofs.KnownPrefix.{same_line, same_character, line-le, nothing-end}
use Rattle.pieces.proofs.Summed.{text_before, total-pieces, few_before}

-- the goals, of the sum of a prefix s
after-character : (g : AfterCharacter) (s : List ℕ) → is_after_character g (sums_of s) ≡ true → g.offset < length s
after-character g [] h = absurd (false≢true h)
after-character g (c ∷ s) h = ltb-true _ _ h

not_after-character : (g : AfterCharacter) (s : List ℕ) → is_after_character g (sums_of s) ≡ false → length s ≤ g.offset
not_after-character g [] h = omega arith
not_after-character g (c ∷ s) h = ltb-false _ _ h

after-position : (g : AfterPosition) (s : List ℕ) → is_after_position g (sums_of s) ≡ true → IsPast g.position (end_before_feed g.unit s)
after-position g [] h = absurd (false≢true h)
after-position g (c ∷ s) h = go (or_cases _ _ h)
  where
    end : Position
    end = end_before_feed g.unit (c ∷ s)

    go : (nat_lt g.position.line (counts_of (c ∷ s)).breaks ≡ true)
        ⊎ ((((counts_of (c ∷ s)).breaks == g.position.line && nat_lt g.position.line most) && nat_lt g.position.character (count_of g.unit (counts_of (c ∷ s)).units_after)) ≡ true)
        → IsPast g.position end
    go (inl p) = inl (omega (arith, ltb-true _ _ p, same_line g.unit (c ∷ s)))
    go (inr p) =
        let parts = and_parts _ _ p in
        let line : (counts_of (c ∷ s)).breaks ≡ g.position.line = eqb-true _ _ (and_parts _ _ parts.0).0 in
        inr (omega (arith, line, same_line g.unit (c ∷ s)), omega (arith, ltb-true _ _ parts.1, same_character g.unit (c ∷ s)))

not_after-position : (g : AfterPosition) (s : List ℕ) → units Utf8 s ≤ 2 ^ 30 → is_after_position g (sums_of s) ≡ false → ¬ IsPast g.position (end_before_feed g.unit s)
not_after-position g [] few h = nothing-end g.unit g.position
not_after-position g (c ∷ s) few h = λ past. false≢true (sym h ∙ go past)
  where
    reached : Bool
    reached = is_after_position g (sums_of (c ∷ s))

    go : IsPast g.position (end_before_feed g.unit (c ∷ s)) → is_after_position g (sums_of (c ∷ s)) ≡ true
    go (inl l) =
        let up : g.position.line < (counts_of (c ∷ s)).breaks = omega (arith, l, same_line g.unit (c ∷ s)) in
        or_left _ _ (lt-ltb _ _ up)
    go (inr p) =
        let line : (counts_of (c ∷ s)).breaks ≡ g.position.line = omega (arith, p.0, same_line g.unit (c ∷ s)) in
        let low : g.position.line < most = omega (arith, p.0, line-le g.unit (c ∷ s), few) in
        let up : g.position.character < count_of g.unit (counts_of (c ∷ s)).units_after = omega (arith, p.1, same_character g.unit (c ∷ s)) in
        or_right _ _ (and_from _ _ (and_from _ _ (eq-eqb _ _ line) (lt-ltb _ _ low)) (lt-ltb _ _ up))

-- a list of pieces, few enough, and a place in it
module _ (pieces : List (List ℕ)) (few : units Utf8 (text_in pieces) ≤ 2 ^ 30) where
  abbrev sum_before : ℕ → Sums
  sum_before i = total Empty joined sums_of (take i pieces)

  pub sum-before : (i : ℕ) → sum_before i ≡ sums_of (text_before pieces i)
  sum-before i = let less : units Utf8 (text_before pieces i) ≤ most = omega (arith, few_before pieces i (2 ^ 30) few) in total-pieces (take i pieces) less

  pub offset-reached : (g : AfterCharacter) (i : ℕ) → is_after_character g (sum_before i) ≡ true → g.offset < length (text_before pieces i)
  offset-reached g i h = after-character g (text_before pieces i) (ap (is_after_character g) (sym (sum-before i)) ∙ h)

  pub offset-not_before : (g : AfterCharacter) (i : ℕ) → ((k : ℕ) → k < i → is_after_character g (sum_before (k + 1)) ≡ false) → length (text_before pieces i) ≤ g.offset
  offset-not_before g zero h = omega arith
  offset-not_before g (suc k) h =
      let more : k + 1 ≡ suc k = omega arith in
      not_after-character g (text_before pieces (suc k)) (ap (is_after_character g) (sym (sum-before (suc k)) ∙ ap sum_before (sym more)) ∙ h k (omega arith))

  pub position-reached : (g : AfterPosition) (i : ℕ) → is_after_position g (sum_before i) ≡ true → IsPast g.position (end_before_feed g.unit (text_before pieces i))
  position-reached g i h = after-position g (text_before pieces i) (ap (is_after_position g) (sym (sum-before i)) ∙ h)

  pub position-not_before : (g : AfterPosition) (i : ℕ) → ((k : ℕ) → k < i → is_after_position g (sum_before (k + 1)) ≡ false) → ¬ IsPast g.position (end_before_feed g.unit (text_before pieces i))
  position-not_before g zero h = nothing-end g.unit g.position
  position-not_before g (suc k) h =
      let more : k + 1 ≡ suc k = omega arith in
      not_after-position g (text_before pieces (suc k)) (few_before pieces (suc k) (2 ^ 30) few)
      (ap (is_after_position g) (sym (sum-before (suc k)) ∙ ap sum_before (sym more)) ∙ h k (omega arith))

-- a place n in the piece t, with s before it and r after it
pub cut-text : (s t r : List ℕ) (n : ℕ) → (s ++ take n t) ++ (drop n t ++ r) ≡ s ++ (t ++ r)
cut-text s t r n =
    append_assoc s (take n t) (drop n t ++ r)
    ∙ ap (λ l. s ++ l) (sym (append_assoc (take n t) (drop n t) r) ∙ ap (λ l. l ++ r) (take-append-drop n t))

pub cut-length : (s t : List ℕ) (n offset : ℕ) → n ≡ offset - length s → length s ≤ offset → offset < length (s ++ t) → length (s ++ take n t) ≡ offset
cut-length s t n offset is low high = omega (arith, is, low, high, length-append s t, length-append s (take n t), length-take n t)

pub cut-next : (s t r : List ℕ) (n offset : ℕ) → n ≡ offset - length s → length s ≤ offset → offset < length (s ++ t) → begins_with 10 (drop n t) ≡ begins_with 10 (drop n t ++ r)
cut-next s t r n offset is low high = go n t (omega (arith, is, low, high, length-append s t))
  where
    go : (m : ℕ) (l : List ℕ) → m < length l → begins_with 10 (drop m l) ≡ begins_with 10 (drop m l ++ r)
    go m [] h = absurd (omega (arith, h))
    go zero (c ∷ l) h = refl
    go (suc m) (c ∷ l) h = go m l (omega (arith, h))
