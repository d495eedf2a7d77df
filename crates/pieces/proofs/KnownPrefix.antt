-- What is known of a prefix of a text: by its sum, with one character more, and by what comes next.
use Rattle.pieces.proofs.Std.{arith, length-append, len_utf8_ascii, lt-ltb, ltb-true, ltb-false, not-true, and_parts, eq-eqb, ne_eqb, and_from, and_left, and_right, false≢true}
use Rattle.pieces.proofs.Std.{refl, sym, ap, subst, inl, inr, ◌∙◌, cond, ◌≡◌, ℕ, zero, suc, ◌+◌, ◌-◌, ◌^◌, ◌≤◌, ◌⊎◌, ◌<◌, ◌≢◌, min, Bool, true, false, not, nat_lt, ◌==◌, List, [], ◌∷◌, ◌++◌, length}
use Rattle.pieces.proofs.Common.{Position, Encoding, Utf8, Utf16, Utf32, begins_with, unit, units, position, Prefix, Counts, Sums, Empty, Filled, ends_with, end_before_feed, counts_of, sums_of, count_of, prefix_of, goes_on, with_ones, room, IsPast}
use Rattle.pieces.proofs.Prefixes.{ended_in, after_in, whole_if_none, position-prefix}
use Rattle.pieces.proofs.Joins.{feed, turned, ended-le, length-le, units-append, units-nil, units-cons, units-le, line-le as line_units-le}
use Rattle.pieces.proofs.Steps.{breaks_at_end, end_at, end-is, end-as_before_feed, end-in_next_line, end-feed, end-return, end-other}

-- by its sum
abbrev is_filled : Sums → Bool
is_filled Empty = false
is_filled (Filled counts) = true

abbrev counts_in : Counts → Sums → Counts
counts_in other Empty = other
counts_in other (Filled counts) = counts

empty-end : (encoding : Encoding) → ◌≡◌ {A = Position} (record { line = 0; character = 0 }) (end_before_feed encoding [])
empty-end encoding = sym (end-is encoding [] ∙ (λ i. record { line = 0; character = units-nil encoding i }))

-- the start of a text is past no position
pub nothing-end : (encoding : Encoding) (p : Position) → ¬ IsPast p (end_before_feed encoding [])
nothing-end encoding p = subst (λ q. ¬ IsPast p q) (empty-end encoding) none
  where
    none : ¬ IsPast p (record { line = 0; character = 0 })
    none (inl l) = omega (arith, l)
    none (inr h) = omega (arith, h.1)

pub prefix-empty : (encoding : Encoding) (s : List ℕ) (sums : Sums) → sums ≡ Empty → sums ≡ sums_of s
    → ◌≡◌ {A = Prefix} (record { characters = 0; end = record { line = 0; character = 0 }; ends_with_return = false }) (prefix_of encoding s)
prefix-empty encoding [] sums none is =
    λ i. record { characters = 0; end = empty-end encoding i; ends_with_return = false }
prefix-empty encoding (c ∷ s) sums none is = absurd (false≢true (ap is_filled (sym none ∙ is)))

pub same_line : (encoding : Encoding) (s : List ℕ) → (end_before_feed Utf8 s).line ≡ (end_before_feed encoding s).line
same_line encoding s = ap (λ q. q.line) (end-is Utf8 s) ∙ sym (ap (λ q. q.line) (end-is encoding s))

pub same_character : (encoding : Encoding) (s : List ℕ) → count_of encoding (counts_of s).units_after ≡ (end_before_feed encoding s).character
same_character Utf8 s = refl
same_character encoding s = refl

pub prefix-filled : (encoding : Encoding) (s : List ℕ) (sums : Sums) (counts : Counts) (character : ℕ) → sums ≡ Filled counts → character ≡ count_of encoding counts.units_after → sums ≡ sums_of s
    → ◌≡◌ {A = Prefix} (record { characters = counts.characters; end = record { line = counts.breaks; character = character }; ends_with_return = counts.ends_with_return }) (prefix_of encoding s)
prefix-filled encoding [] sums counts character some counted is = absurd (false≢true (ap is_filled (sym is ∙ some)))
prefix-filled encoding (c ∷ s) sums counts character some counted is =
    let same : counts ≡ counts_of (c ∷ s) = ap (counts_in counts) (sym some ∙ is) in
    let line : counts.breaks ≡ (end_before_feed encoding (c ∷ s)).line = ap (λ k. k.breaks) same ∙ same_line encoding (c ∷ s) in
    let units : character ≡ (end_before_feed encoding (c ∷ s)).character = counted ∙ ap (λ k. count_of encoding k.units_after) same ∙ same_character encoding (c ∷ s) in
    λ i. record { characters = (same i).characters; end = record { line = line i; character = units i }; ends_with_return = (same i).ends_with_return }

-- there are no more lines than characters
pub line-le : (encoding : Encoding) (s : List ℕ) → (end_before_feed encoding s).line ≤ units Utf8 s
line-le encoding s = omega (arith, ap (λ q. q.line) (end-is encoding s), ended-le s feed, length-le s)

units_after-le : (s r : List ℕ) → units Utf8 (after_in s r) ≤ units Utf8 s
units_after-le [] r = omega arith
units_after-le (c ∷ s) r = go (units_after-le s r) (ended_in (c ∷ s) r)
  where
    go : units Utf8 (after_in s r) ≤ units Utf8 s → (n : ℕ) → units Utf8 (whole_if_none n (c ∷ s) (after_in s r)) ≤ units Utf8 (c ∷ s)
    go later zero = omega arith
    go later (suc n) = omega (arith, units-cons Utf8 c s, later)

-- nor more units in a line than bytes
pub character-le : (encoding : Encoding) (s : List ℕ) → (end_before_feed encoding s).character ≤ units Utf8 s
character-le encoding s = omega (arith, ap (λ q. q.character) (end-is encoding s), line_units-le encoding (after_in s feed), units-le encoding (after_in s feed), units_after-le s feed)

-- by what comes next
pub position-next_line : (encoding : Encoding) (s r : List ℕ) (prefix : Prefix) (before_feed : Bool) (line : ℕ)
    → prefix.ends_with_return ≡ true → before_feed ≡ false → line ≡ min (prefix.end.line + 1) 4294967295
    → units Utf8 s ≤ 2 ^ 30 → prefix ≡ prefix_of encoding s → before_feed ≡ begins_with 10 r → ◌≡◌ {A = Position} (record { line = line; character = 0 }) (position encoding (s ++ r) (length s))
position-next_line encoding s r prefix before_feed line ends other next few is begins =
    let return : ends_with 13 s ≡ true = ap (λ f. f.ends_with_return) (sym is) ∙ ends in
    let no_feed : not (begins_with 10 r) ≡ true = ap not (sym begins ∙ other) in
    let exact : line ≡ (end_before_feed encoding s).line + 1 = omega (arith, next, ap (λ f. f.end.line) is, line-le encoding s, few) in
    (λ i. record { line = exact i; character = 0 })
    ∙ sym (position-prefix encoding s r ∙ end-in_next_line encoding s r (and_from _ _ return no_feed))

pub position-same_line : (encoding : Encoding) (s r : List ℕ) (prefix : Prefix) (before_feed : Bool) → (prefix.ends_with_return ≡ true) × (before_feed ≡ true) ⊎ (prefix.ends_with_return ≡ false)
    → prefix ≡ prefix_of encoding s → before_feed ≡ begins_with 10 r → prefix.end ≡ position encoding (s ++ r) (length s)
position-same_line encoding s r prefix before_feed either is begins =
    ap (λ f. f.end) is ∙ sym (position-prefix encoding s r ∙ end-as_before_feed encoding s r (none either))
  where
    none : (prefix.ends_with_return ≡ true) × (before_feed ≡ true) ⊎ (prefix.ends_with_return ≡ false) → breaks_at_end s r ≡ false
    none (inl h) = and_right _ _ (ap not (sym begins ∙ h.1))
    none (inr h) = and_left _ _ (ap (λ f. f.ends_with_return) (sym is) ∙ h)

-- with one character more
unit-ascii : (encoding : Encoding) (c : ℕ) → c < 0x80 → unit encoding c ≡ 1
unit-ascii Utf8 c low = len_utf8_ascii c low
unit-ascii Utf16 c low = ap (λ x. cond x 1 2) (lt-ltb c 0x1_0000 (omega (arith, low)))
unit-ascii Utf32 c low = refl

pub few_prefix : (s : List ℕ) (c m : ℕ) → units Utf8 (s ++ c ∷ []) ≤ m → units Utf8 s ≤ m
few_prefix s c m few = omega (arith, few, units-append Utf8 s (c ∷ []))

pub end-with_feed : (encoding : Encoding) (s : List ℕ) (c : ℕ) (before : Position) (line : ℕ) → c ≡ 10 → before ≡ position encoding (s ++ c ∷ []) (length s) → line ≡ min (before.line + 1) 4294967295
    → units Utf8 (s ++ c ∷ []) ≤ 2 ^ 30 → ◌≡◌ {A = Position} (record { line = line; character = 0 }) (end_before_feed encoding (s ++ c ∷ []))
end-with_feed encoding s c before line same is next few =
    let at : before ≡ end_at encoding s (c ∷ []) = is ∙ position-prefix encoding s (c ∷ []) in
    let exact : line ≡ (end_at encoding s (c ∷ [])).line + 1 = omega (arith, next, ap (λ q. q.line) at, ended-le s (c ∷ []), length-le s, few_prefix s c (2 ^ 30) few) in
    let end : end_at encoding (s ++ c ∷ []) feed ≡ record { line = (end_at encoding s (c ∷ [])).line + 1; character = 0 } =
    subst (λ x. end_at encoding (s ++ x ∷ []) feed ≡ record { line = (end_at encoding s (x ∷ [])).line + 1; character = 0 }) (sym same) (end-feed encoding s []) in
    (λ i. record { line = exact i; character = 0 }) ∙ sym (end-is encoding (s ++ c ∷ []) ∙ end)

pub end-with_return : (encoding : Encoding) (s : List ℕ) (c : ℕ) (before : Position) → c ≡ 13 → before ≡ position encoding (s ++ c ∷ []) (length s) → before ≡ end_before_feed encoding (s ++ c ∷ [])
end-with_return encoding s c before same is =
    let end : end_at encoding (s ++ c ∷ []) feed ≡ end_at encoding s (c ∷ []) = subst (λ x. end_at encoding (s ++ x ∷ []) feed ≡ end_at encoding s (x ∷ [])) (sym same) (end-return encoding s []) in
    is ∙ position-prefix encoding s (c ∷ []) ∙ sym (end-is encoding (s ++ c ∷ []) ∙ end)

pub end-with_other : (encoding : Encoding) (s : List ℕ) (c : ℕ) (before : Position) (more character : ℕ) → (c ≡ 10 → ⊥) → (c ≡ 13 → ⊥) → before ≡ position encoding (s ++ c ∷ []) (length s)
    → more ≡ unit encoding c → character ≡ min (before.character + more) 4294967295
    → units Utf8 (s ++ c ∷ []) ≤ 2 ^ 30 → ◌≡◌ {A = Position} (record { line = before.line; character = character }) (end_before_feed encoding (s ++ c ∷ []))
end-with_other encoding s c before more character a b is counted next few =
    let at : before ≡ end_at encoding s (c ∷ []) = is ∙ position-prefix encoding s (c ∷ []) in
    let end = end-is encoding (s ++ c ∷ []) ∙ end-other encoding s [] c (ne_eqb c 10 a) (ne_eqb c 13 b) in
    let exact : character ≡ (end_at encoding s (c ∷ [])).character + unit encoding c =
    omega (arith, next, counted, ap (λ q. q.character) at, ap (λ q. q.character) end, character-le encoding (s ++ c ∷ []), few) in
    (λ i. record { line = (at i).line; character = exact i }) ∙ sym end

ends_with-more : (s : List ℕ) (c : ℕ) → ends_with 13 (s ++ c ∷ []) ≡ (13 == c)
ends_with-more (d ∷ e ∷ s) c = ends_with-more (e ∷ s) c
ends_with-more d c = refl

pub prefix-with : (encoding : Encoding) (s : List ℕ) (c : ℕ) (prefix : Prefix) (characters : ℕ) (end : Position)
    → characters ≡ min (prefix.characters + 1) 4294967295 → end ≡ end_before_feed encoding (s ++ c ∷ [])
    → units Utf8 (s ++ c ∷ []) ≤ 2 ^ 30 → prefix ≡ prefix_of encoding s
    → ◌≡◌ {A = Prefix} (record { characters = characters; end = end; ends_with_return = c == 13 }) (prefix_of encoding (s ++ c ∷ []))
prefix-with encoding s c prefix characters end next ends few is =
    let exact : characters ≡ length (s ++ c ∷ []) = omega (arith, next, ap (λ f. f.characters) is, length-append s (c ∷ []), length-le (s ++ c ∷ []), few) in
    let return : (c == 13) ≡ ends_with 13 (s ++ c ∷ []) = turned c 13 ∙ sym (ends_with-more s c) in
    λ i. record { characters = exact i; end = ends i; ends_with_return = return i }

-- with a character more that stands in its last line
prefix-with_one : (encoding : Encoding) (s : List ℕ) (c : ℕ) (prefix : Prefix) (characters character : ℕ)
    → characters ≡ min (prefix.characters + 1) 4294967295 → character ≡ min (prefix.end.character + 1) 4294967295
    → units Utf8 (s ++ c ∷ []) ≤ 2 ^ 30 → goes_on prefix c ≡ true → prefix ≡ prefix_of encoding s
    → ◌≡◌ {A = Prefix} (record { characters = characters; end = record { line = prefix.end.line; character = character }; ends_with_return = prefix.ends_with_return })
    (prefix_of encoding (s ++ c ∷ []))
prefix-with_one encoding s c prefix characters character counted next few goes is =
    let parts = and_parts _ _ goes in
    let ascii = and_parts _ _ parts.0 in
    let high : 13 < c = ltb-true _ _ ascii.0 in
    let low : c < 0x80 = ltb-true _ _ ascii.1 in
    let none : prefix.ends_with_return ≡ false = not-true _ parts.1 in
    let other : c ≢ 13 = λ e. omega (arith, high, e) in
    let at : prefix.end ≡ position encoding (s ++ c ∷ []) (length s) = position-same_line encoding s (c ∷ []) prefix (10 == c) (inr none) is refl in
    let end = end-with_other encoding s c prefix.end 1 character (λ e. omega (arith, high, e)) other at (sym (unit-ascii encoding c low)) next few in
    (λ i. record { characters = characters; end = record { line = prefix.end.line; character = character }; ends_with_return = (none ∙ sym (ne_eqb c 13 other)) i })
    ∙ prefix-with encoding s c prefix characters (record { line = prefix.end.line; character = character }) counted end few is

-- with n such characters after it
pub no_ones : (prefix : Prefix) → with_ones prefix 0 ≡ prefix
no_ones prefix =
    let characters : prefix.characters + 0 ≡ prefix.characters = omega arith in
    let character : prefix.end.character + 0 ≡ prefix.end.character = omega arith in
    λ i. record { characters = characters i; end = record { line = prefix.end.line; character = character i }; ends_with_return = prefix.ends_with_return }

pub ones-more : (encoding : Encoding) (s : List ℕ) (c : ℕ) (prefix : Prefix) (n : ℕ) → units Utf8 (s ++ c ∷ []) ≤ 2 ^ 30 → goes_on prefix c ≡ true
    → with_ones prefix n ≡ prefix_of encoding s → with_ones prefix (n + 1) ≡ prefix_of encoding (s ++ c ∷ [])
ones-more encoding s c prefix n few goes is =
    let short = few_prefix s c (2 ^ 30) few in
    let characters : prefix.characters + (n + 1) ≡ min (prefix.characters + n + 1) 4294967295 = omega (arith, ap (λ f. f.characters) is, length-le s, short) in
    let character : prefix.end.character + (n + 1) ≡ min (prefix.end.character + n + 1) 4294967295 = omega (arith, ap (λ f. f.end.character) is, character-le encoding s, short) in
    prefix-with_one encoding s c (with_ones prefix n) (prefix.characters + (n + 1)) (prefix.end.character + (n + 1)) characters character few goes is

-- the sum of a prefix is stored in full
pub ones-fit : (encoding : Encoding) (s : List ℕ) (prefix : Prefix) (n characters character : ℕ) → characters ≡ min (prefix.characters + n) 4294967295
    → character ≡ min (prefix.end.character + n) 4294967295
    → units Utf8 s ≤ 2 ^ 30 → with_ones prefix n ≡ prefix_of encoding s
    → ◌≡◌ {A = Prefix} (record { characters = characters; end = record { line = prefix.end.line; character = character }; ends_with_return = prefix.ends_with_return }) (prefix_of encoding s)
ones-fit encoding s prefix n characters character counted next few is =
    let all : characters ≡ prefix.characters + n = omega (arith, counted, ap (λ f. f.characters) is, length-le s, few) in
    let line : character ≡ prefix.end.character + n = omega (arith, next, ap (λ f. f.end.character) is, character-le encoding s, few) in
    (λ i. record { characters = all i; end = record { line = prefix.end.line; character = line i }; ends_with_return = prefix.ends_with_return }) ∙ is

-- so many go past no position
pub room-not_past : (p : Position) (prefix : Prefix) (n : ℕ) → ¬ IsPast p prefix.end → n ≤ room prefix p → ¬ IsPast p (with_ones prefix n).end
room-not_past p prefix n before few (inl l) = before (inl l)
room-not_past p prefix n before few (inr h) =
    let room_is : room prefix p ≡ p.character - prefix.end.character = ap (λ b. cond b (p.character - prefix.end.character) (2 ^ 32 - 1)) (eq-eqb _ _ (sym h.0)) in
    go (nat_lt p.character prefix.end.character) refl (omega (arith, few, room_is))
  where
    go : (b : Bool) → nat_lt p.character prefix.end.character ≡ b → n ≤ p.character - prefix.end.character → ⊥
    go true e few = before (inr (h.0, ltb-true _ _ e))
    go false e few = omega (arith, ltb-false _ _ e, few, h.1)
