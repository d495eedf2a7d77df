-- The sum of a text by the units of what is after its last `\r` or `\n`, with one character more.
use Rattle.pieces.proofs.Std.{zero, suc, true, false, ◌||◌, cases_Bool, and_parts, eqb-true, ne_eqb, lt-ltb, IsAscii, chars-IsAscii, IsUtf8-from_ascii, len_utf8_ascii, ◌≡◌, ℕ, ◌+◌, ◌<◌, ◌≤◌, ◌⊎◌, ◌==◌, List, [], ◌∷◌, ◌++◌, length, take, arith, refl, sym, ap, subst, inl, inr, ◌∙◌, cond}
use Rattle.pieces.proofs.Common.{saturated-zero_left, saturated-exact, Utf8, Utf16, Utf32, unit, units, Counts, Sums, Empty, Filled, Units, sums_of, most, sum, units_joined, later_breaks, after_joined, joined, no_units, units_of, ascii_units, shown_units, HaveRoom, is_none, line_sums, joined-assoc}
use Rattle.pieces.proofs.Joins.{sums_of_one, sums_of-more, units-chars, unit-le, length-le, units-append, units-cons, units-nil}
use Rattle.pieces.proofs.KnownPrefix.{character-le}
use Rattle.pieces.proofs.CharacterLoops.{few-take}

-- the units of a character that is no `\r` and no `\n`, and its sum
shown-other : (c : ℕ) → (c == 10) ≡ false → (c == 13) ≡ false → shown_units c ≡ units_of c
shown-other c a b = λ i. cond (a i || b i) no_units (units_of c)

abbrev filled : Units → Sums
filled u = Filled (record { characters = u.utf32; bytes = u.utf8; breaks = 0; units_after = u; begins_with_feed = false; ends_with_return = false })

other_one : (c : ℕ) → (c == 10) ≡ false → (c == 13) ≡ false → sums_of (c ∷ []) ≡ filled (units_of c)
other_one c a b =
    sums_of_one c
    ∙ (λ i. Filled (record { characters = 1; bytes = unit Utf8 c; breaks = cond (a i) 1 0; units_after = shown-other c a b i; begins_with_feed = a i; ends_with_return = b i }))

line-none : (u : Units) → is_none u ≡ true → line_sums u ≡ Empty
line-none u e = ap (λ x. cond x Empty (filled u)) e

line-some : (u : Units) → is_none u ≡ false → line_sums u ≡ filled u
line-some u e = ap (λ x. cond x Empty (filled u)) e

none-is : (u : Units) → is_none u ≡ true → u ≡ no_units
none-is u e =
    let first = and_parts _ _ e in
    let second = and_parts _ _ first.1 in
    λ i. record { utf8 = eqb-true u.utf8 0 first.0 i; utf16 = eqb-true u.utf16 0 second.0 i; utf32 = eqb-true u.utf32 0 second.1 i }

none_joined : (u : Units) → units_joined no_units u ≡ u
none_joined u = λ i. record { utf8 = saturated-zero_left most u.utf8 i; utf16 = saturated-zero_left most u.utf16 i; utf32 = saturated-zero_left most u.utf32 i }

some_joined : (u : Units) (c : ℕ) → is_none (units_joined u (units_of c)) ≡ false
some_joined u c = go (units_joined u (units_of c)) (omega arith)
  where
    go : (v : Units) → 1 ≤ v.utf32 → is_none v ≡ false
    go v some = grind arith

line-more : (u : Units) (c : ℕ) → (c == 10) ≡ false → (c == 13) ≡ false → line_sums (units_joined u (units_of c)) ≡ joined (line_sums u) (sums_of (c ∷ []))
line-more u c a b =
    line-some (units_joined u (units_of c)) (some_joined u c)
    ∙ go (cases_Bool (is_none u))
    ∙ ap (joined (line_sums u)) (sym (other_one c a b))
  where
    go : (is_none u ≡ true) ⊎ (is_none u ≡ false) → filled (units_joined u (units_of c)) ≡ joined (line_sums u) (filled (units_of c))
    go (inl e) =
        ap (λ v. filled (units_joined v (units_of c))) (none-is u e)
        ∙ ap filled (none_joined (units_of c))
        ∙ sym (ap (λ s. joined s (filled (units_of c))) (line-none u e))
    go (inr e) = sym (ap (λ s. joined s (filled (units_of c))) (line-some u e))

pub joined-line-more : (before : Sums) (line more : Units) (c : ℕ) → ¬ (c ≡ 10) → ¬ (c ≡ 13) → more ≡ units_joined line (units_of c)
    → joined before (line_sums more) ≡ joined (joined before (line_sums line)) (sums_of (c ∷ []))
joined-line-more before line more c a b is =
    ap (λ u. joined before (line_sums u)) is
    ∙ ap (joined before) (line-more line c (ne_eqb c 10 a) (ne_eqb c 13 b))
    ∙ sym (joined-assoc before (line_sums line) (sums_of (c ∷ [])))

-- the line has at most the units of the text, so there is room for those of one character more
abbrev empty : Counts
empty = record { characters = 0; bytes = 0; breaks = 0; units_after = no_units; begins_with_feed = false; ends_with_return = false }

record AreWithin (line : Units) (counts : Counts) : Type 0 where
  utf8 : line.utf8 ≤ counts.bytes
  utf16 : line.utf16 ≤ counts.units_after.utf16
  utf32 : line.utf32 ≤ counts.characters

units_after-ge : (breaks : ℕ) (a b : Units) → b.utf16 ≤ (after_joined breaks a b).utf16
units_after-ge zero a b = omega arith
units_after-ge (suc breaks) a b = omega arith

counts_in : Sums → Counts
counts_in Empty = empty
counts_in (Filled counts) = counts

within-filled : (before : Sums) (line : Units) → AreWithin line (counts_in (joined before (filled line)))
unfolding counts_in
within-filled Empty line = record { utf8 = omega arith; utf16 = omega arith; utf32 = omega arith }
within-filled (Filled a) line =
    record { utf8 = omega arith; utf16 = units_after-ge (later_breaks a (counts_in (filled line))) a.units_after line; utf32 = omega arith }

within : (before : Sums) (line : Units) → AreWithin line (counts_in (joined before (line_sums line)))
within before line = go (cases_Bool (is_none line))
  where
    go : (is_none line ≡ true) ⊎ (is_none line ≡ false) → AreWithin line (counts_in (joined before (line_sums line)))
    go (inl e) =
        let none : line ≡ no_units = none-is line e in
        record { utf8 = omega (arith, ap (λ u. u.utf8) none); utf16 = omega (arith, ap (λ u. u.utf16) none); utf32 = omega (arith, ap (λ u. u.utf32) none) }
    go (inr e) = subst (λ s. AreWithin line (counts_in (joined before s))) (sym (line-some line e)) (within-filled before line)

few-counts : (t : List ℕ) → ((counts_in (sums_of t)).bytes ≤ units Utf8 t) × (((counts_in (sums_of t)).units_after.utf16 ≤ units Utf8 t) × ((counts_in (sums_of t)).characters ≤ units Utf8 t))
unfolding counts_in
few-counts [] = (omega arith, (omega arith, omega arith))
few-counts (c ∷ t) = (omega arith, (character-le Utf16 (c ∷ t), length-le (c ∷ t)))

pub line-room : (before : Sums) (line : Units) (t : List ℕ) (c : ℕ) → joined before (line_sums line) ≡ sums_of t → units Utf8 (t ++ c ∷ []) ≤ most → HaveRoom line c
line-room before line t c is fits =
    let h : AreWithin line (counts_in (sums_of t)) = subst (λ s. AreWithin line (counts_in s)) is (within before line) in
    let few = few-counts t in
    let whole : units Utf8 t + unit Utf8 c ≤ most = omega (arith, fits, units-append Utf8 t (c ∷ []), units-cons Utf8 c [], units-nil Utf8) in
    record { utf8 = omega (arith, h.utf8, few.0, whole); utf16 = omega (arith, h.utf16, few.1.0, unit-le Utf16 c, whole); utf32 = omega (arith, h.utf32, few.1.1, unit-le Utf32 c, whole) }

-- the bytes of a text of ASCII are its characters, and each has one unit
one_more : (n c : ℕ) → c < 0x80 → n + 1 ≤ most → ascii_units (n + 1) ≡ units_joined (ascii_units n) (units_of c)
one_more n c low few =
    let utf8 : unit Utf8 c ≡ 1 = len_utf8_ascii c low in
    let utf16 : unit Utf16 c ≡ 1 = ap (λ x. cond x 1 2) (lt-ltb c 0x1_0000 (omega arith)) in
    let one : n + 1 ≡ sum n 1 = sym (saturated-exact most n 1 few) in
    λ i. record { utf8 = (one ∙ ap (sum n) (sym utf8)) i; utf16 = (one ∙ ap (sum n) (sym utf16)) i; utf32 = one i }

pub ascii-more : (before : Sums) (n : ℕ) (t : List ℕ) (c : ℕ) → c < 0x80 → ¬ (c ≡ 10) → ¬ (c ≡ 13) → n + 1 ≤ most → joined before (line_sums (ascii_units n)) ≡ sums_of t
    → units Utf8 (t ++ c ∷ []) ≤ most → joined before (line_sums (ascii_units (n + 1))) ≡ sums_of (t ++ c ∷ [])
ascii-more before n t c low a b few is fits =
    joined-line-more before (ascii_units n) (ascii_units (n + 1)) c a b (one_more n c low few)
    ∙ sums_of-more t c (joined before (line_sums (ascii_units n))) (sums_of (c ∷ [])) (λ prefix. is) refl fits

pub ascii-fits : (t : List ℕ) (n c : ℕ) → IsAscii t → length t ≤ most → take (n + 1) t ≡ take n t ++ c ∷ [] → units Utf8 (take n t ++ c ∷ []) ≤ most
ascii-fits t n c ascii few next =
    let bytes : units Utf8 t ≡ length t = ap (units Utf8) (sym (chars-IsAscii t ascii)) ∙ units-chars t (IsUtf8-from_ascii t ascii) in
    let whole : units Utf8 t ≤ most = omega (arith, bytes, few) in
    subst (λ l. units Utf8 l ≤ most) next (few-take [] t (n + 1) most whole)
