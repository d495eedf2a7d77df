-- The sum of a text joins those of its parts.
use Rattle.pieces.proofs.Std.{zero, suc, Bool, true, false, ◌||◌, take_while, encode_utf8, len_utf8, prefix_len, IsUtf8, chars, ◌≡◌, ℕ, ◌+◌, ◌≤◌, ◌⊎◌, not, ◌&&◌, ◌==◌, nat_lt, List, [], ◌∷◌, ◌++◌, length, encode_utf8_all, refl, sym, ap, subst, inl, inr, ◌∙◌, cond}
use Rattle.pieces.proofs.Std.{cases_Bool, eqb-true, eq-eqb, false≢true, ltb-true, ltb-false, take_while-cons, sum_by-cons, sum_by-take-le, sum_by-append, len_utf8_bounds, length-encode, encodes-chars, arith, length-append}
use Rattle.pieces.proofs.Common.{saturated-exact, saturated-zero_left, Encoding, Utf8, Utf16, Utf32, begins_with, ends_break, unit, units, in_line, Units, Sums, Counts, Filled, ends_with, counts_of, sums_of, shown_units, most, sum, after_joined, counts_joined, joined, joined-assoc}
use Rattle.pieces.proofs.Prefixes.{ended_in, after_in, units_after-none, units_after-some, position-prefix}

-- what a `\n` after a text leaves: the breaks that end in it, and the units after them
abbrev pub feed : List ℕ
feed = 10 ∷ []

abbrev ended_before : List ℕ → ℕ
ended_before t = ended_in t feed

abbrev shown : Encoding → List ℕ → ℕ
shown encoding t = units encoding (take_while in_line (after_in t feed))

abbrev shown_all : List ℕ → Units
shown_all t = record { utf8 = shown Utf8 t; utf16 = shown Utf16 t; utf32 = shown Utf32 t }

abbrev plain : List ℕ → Counts
plain t = record { characters = length t; bytes = units Utf8 t; breaks = ended_before t; units_after = shown_all t; begins_with_feed = begins_with 10 t; ends_with_return = ends_with 13 t }

counts_of-plain : (t : List ℕ) → counts_of t ≡ plain t
counts_of-plain t = λ i. record {
  characters = length t;
  bytes = units Utf8 t;
  breaks = ap (λ p. p.line) (position-prefix Utf8 t feed) i;
  units_after = record {
    utf8 = ap (λ p. p.character) (position-prefix Utf8 t feed) i;
    utf16 = ap (λ p. p.character) (position-prefix Utf16 t feed) i;
    utf32 = ap (λ p. p.character) (position-prefix Utf32 t feed) i;
  };
  begins_with_feed = begins_with 10 t;
  ends_with_return = ends_with 13 t;
}

pub data Class (c : ℕ) : Type 0 where
  Feed : c ≡ 10 → Class c
  Return : c ≡ 13 → Class c
  Other : (c == 10) ≡ false → (c == 13) ≡ false → Class c

pub class : (c : ℕ) → Class c
class c = go (cases_Bool (c == 10)) (cases_Bool (c == 13))
  where
    go : ((c == 10) ≡ true) ⊎ ((c == 10) ≡ false) → ((c == 13) ≡ true) ⊎ ((c == 13) ≡ false) → Class c
    go (inl a) b = Feed (eqb-true c 10 a)
    go (inr a) (inl b) = Return (eqb-true c 13 b)
    go (inr a) (inr b) = Other a b

pub turned : (a b : ℕ) → (a == b) ≡ (b == a)
turned a b = go (cases_Bool (a == b)) (cases_Bool (b == a))
  where
    go : ((a == b) ≡ true) ⊎ ((a == b) ≡ false) → ((b == a) ≡ true) ⊎ ((b == a) ≡ false) → (a == b) ≡ (b == a)
    go (inl p) (inl q) = p ∙ sym q
    go (inr p) (inr q) = p ∙ sym q
    go (inl p) (inr q) = absurd (false≢true (sym q ∙ eq-eqb b a (sym (eqb-true a b p))))
    go (inr p) (inl q) = absurd (false≢true (sym p ∙ eq-eqb a b (sym (eqb-true b a q))))

pub no_break : (c : ℕ) (r : List ℕ) → (c == 10) ≡ false → (c == 13) ≡ false → ends_break c r ≡ false
no_break c r a b = ap (λ x. x || (c == 13 && not (begins_with 10 r))) a ∙ ap (λ x. x && not (begins_with 10 r)) b

pub goes_on : (c : ℕ) → (c == 10) ≡ false → (c == 13) ≡ false → in_line c ≡ true
goes_on c a b = ap (λ x. not (x || c == 13)) a ∙ ap not b

pub units-cons : (encoding : Encoding) (c : ℕ) (t : List ℕ) → units encoding (c ∷ t) ≡ unit encoding c + units encoding t
unfolding units
units-cons encoding c t = sum_by-cons (unit encoding) c t

pub units-nil : (encoding : Encoding) → units encoding [] ≡ 0
unfolding units
units-nil encoding = refl

-- the characters in line, with one more at the start
line-cons : (encoding : Encoding) (c : ℕ) (t : List ℕ) → in_line c ≡ true → units encoding (take_while in_line (c ∷ t)) ≡ unit encoding c + units encoding (take_while in_line t)
line-cons encoding c t g = ap (units encoding) (take_while-cons in_line c t ∙ ap (λ b. cond b (c ∷ take_while in_line t) []) g) ∙ units-cons encoding c (take_while in_line t)

-- one character
other_ended : (c : ℕ) (t : List ℕ) → (c == 10) ≡ false → (c == 13) ≡ false → ended_before (c ∷ t) ≡ ended_before t
other_ended c t a b = ap (λ x. cond x 1 0 + ended_before t) (no_break c (t ++ feed) a b) ∙ omega arith

other_one : (encoding : Encoding) (c : ℕ) → (c == 10) ≡ false → (c == 13) ≡ false → shown encoding (c ∷ []) ≡ unit encoding c
other_one encoding c a b =
    ap (λ l. units encoding (take_while in_line l)) (units_after-none (c ∷ []) feed (other_ended c [] a b))
    ∙ line-cons encoding c [] (goes_on c a b)
    ∙ ap (λ n. unit encoding c + n) (units-nil encoding)
    ∙ omega arith

feed_one : shown_all (10 ∷ []) ≡ record { utf8 = 0; utf16 = 0; utf32 = 0 }
feed_one = λ i. record { utf8 = units-nil Utf8 i; utf16 = units-nil Utf16 i; utf32 = units-nil Utf32 i }

return_one : shown_all (13 ∷ []) ≡ record { utf8 = 0; utf16 = 0; utf32 = 0 }
return_one = λ i. record { utf8 = units-nil Utf8 i; utf16 = units-nil Utf16 i; utf32 = units-nil Utf32 i }

units_one : (c : ℕ) → units Utf8 (c ∷ []) ≡ len_utf8 c
units_one c = units-cons Utf8 c [] ∙ ap (λ n. unit Utf8 c + n) (units-nil Utf8) ∙ omega arith

ended_one : (c : ℕ) → Class c → ended_before (c ∷ []) ≡ cond (c == 10) 1 0
ended_one c (Feed e) = subst (λ d. ended_before (d ∷ []) ≡ cond (d == 10) 1 0) (sym e) refl
ended_one c (Return e) = subst (λ d. ended_before (d ∷ []) ≡ cond (d == 10) 1 0) (sym e) refl
ended_one c (Other a b) = other_ended c [] a b ∙ sym (ap (λ x. cond x 1 0) a)

shown_one : (c : ℕ) → Class c → shown_all (c ∷ []) ≡ shown_units c
shown_one c (Feed e) = subst (λ d. shown_all (d ∷ []) ≡ shown_units d) (sym e) feed_one
shown_one c (Return e) = subst (λ d. shown_all (d ∷ []) ≡ shown_units d) (sym e) return_one
shown_one c (Other a b) =
    (λ i. record { utf8 = other_one Utf8 c a b i; utf16 = other_one Utf16 c a b i; utf32 = other_one Utf32 c a b i })
    ∙ sym (ap (λ x. cond (x || c == 13) (record { utf8 = 0; utf16 = 0; utf32 = 0 }) (record { utf8 = unit Utf8 c; utf16 = unit Utf16 c; utf32 = unit Utf32 c })) a
    ∙ ap (λ x. cond x (record { utf8 = 0; utf16 = 0; utf32 = 0 }) (record { utf8 = unit Utf8 c; utf16 = unit Utf16 c; utf32 = unit Utf32 c })) b)

pub sums_of_one : (c : ℕ) → sums_of (c ∷ []) ≡ Filled
    (record { characters = 1; bytes = len_utf8 c; breaks = cond (c == 10) 1 0; units_after = shown_units c; begins_with_feed = c == 10; ends_with_return = c == 13 })
sums_of_one c = ap Filled (counts_of-plain (c ∷ []) ∙ (λ i. record {
  characters = 1;
  bytes = units_one c i;
  breaks = ended_one c (class c) i;
  units_after = shown_one c (class c) i;
  begins_with_feed = turned 10 c i;
  ends_with_return = turned 13 c i;
}))

-- bounds: nothing is counted more often than bytes
pub unit-le : (encoding : Encoding) (c : ℕ) → unit encoding c ≤ unit Utf8 c
unit-le Utf8 c = omega arith
unit-le Utf16 c = go (nat_lt c 0x80) refl (nat_lt c 0x800) refl (nat_lt c 0x1_0000) refl
  where
    go : (x : Bool) → nat_lt c 0x80 ≡ x → (y : Bool) → nat_lt c 0x800 ≡ y → (z : Bool) → nat_lt c 0x1_0000 ≡ z → cond z 1 2 ≤ cond x 1 (cond y 2 (cond z 3 4))
    go true e y f true g = omega arith
    go true e y f false g = absurd (omega (arith, ltb-true _ _ e, ltb-false _ _ g))
    go false e true f true g = omega arith
    go false e true f false g = omega arith
    go false e false f true g = omega arith
    go false e false f false g = omega arith
unit-le Utf32 c = omega (arith, len_utf8_bounds c)

pub units-le : (encoding : Encoding) (t : List ℕ) → units encoding t ≤ units Utf8 t
units-le encoding [] = omega (arith, units-nil encoding)
units-le encoding (c ∷ t) = omega (arith, units-cons encoding c t, units-cons Utf8 c t, unit-le encoding c, units-le encoding t)

pub length-le : (t : List ℕ) → length t ≤ units Utf8 t
length-le [] = omega arith
length-le (c ∷ t) = omega (arith, units-cons Utf8 c t, len_utf8_bounds c, length-le t)

at_most_one : (b : Bool) → cond b 1 0 ≤ 1
at_most_one true = omega arith
at_most_one false = omega arith

pub ended-le : (t r : List ℕ) → ended_in t r ≤ length t
ended-le [] r = omega arith
ended-le (c ∷ t) r = omega (arith, at_most_one (ends_break c (t ++ r)), ended-le t r)

pub line-le : (encoding : Encoding) (t : List ℕ) → units encoding (take_while in_line t) ≤ units encoding t
unfolding units
line-le encoding t = sum_by-take-le (unit encoding) t (prefix_len in_line t)

pub units-append : (encoding : Encoding) (s t : List ℕ) → units encoding (s ++ t) ≡ units encoding s + units encoding t
unfolding units
units-append encoding s t = sum_by-append (unit encoding) s t

-- one character more at the start
shown_later : (c : ℕ) (t : List ℕ) → 1 ≤ ended_before (c ∷ t) → shown_all (c ∷ t) ≡ shown_all t
shown_later c t h = ap (λ l. record { utf8 = units Utf8 (take_while in_line l); utf16 = units Utf16 (take_while in_line l); utf32 = units Utf32 (take_while in_line l) }) (units_after-some c t feed h)

none_first : (m : ℕ) (v : Units) → after_joined m (record { utf8 = 0; utf16 = 0; utf32 = 0 }) v ≡ v
none_first zero v = λ i. record { utf8 = saturated-zero_left most v.utf8 i; utf16 = saturated-zero_left most v.utf16 i; utf32 = saturated-zero_left most v.utf32 i }
none_first (suc m) v = refl

fits_characters : (c : ℕ) (t : List ℕ) → units Utf8 (c ∷ t) ≤ most → sum 1 (length t) ≡ suc (length t)
fits_characters c t fits = saturated-exact most 1 (length t) (omega (arith, fits, length-le (c ∷ t))) ∙ omega arith

fits_bytes : (c : ℕ) (t : List ℕ) → units Utf8 (c ∷ t) ≤ most → sum (units Utf8 (c ∷ [])) (units Utf8 t) ≡ units Utf8 (c ∷ t)
fits_bytes c t fits = saturated-exact most (units Utf8 (c ∷ [])) (units Utf8 t) (omega (arith, fits, units-append Utf8 (c ∷ []) t)) ∙ sym (units-append Utf8 (c ∷ []) t)

few_ended : (c : ℕ) (t : List ℕ) → units Utf8 (c ∷ t) ≤ most → 1 + ended_before t ≤ most
few_ended c t fits = omega (arith, fits, length-le (c ∷ t), ended-le t feed)

feed_plain : (t : List ℕ) → units Utf8 (10 ∷ t) ≤ most → counts_joined (plain (10 ∷ [])) (plain t) ≡ plain (10 ∷ t)
feed_plain t fits =
    let breaks : sum 1 (sum 0 (ended_before t)) ≡ 1 + ended_before t = ap (sum 1) (saturated-zero_left most (ended_before t)) ∙ saturated-exact most 1 (ended_before t) (few_ended 10 t fits) in
    let units_after : after_joined (sum 0 (ended_before t)) (shown_all (10 ∷ [])) (shown_all t) ≡ shown_all (10 ∷ t) =
    ap (λ u. after_joined (sum 0 (ended_before t)) u (shown_all t)) feed_one ∙ none_first (sum 0 (ended_before t)) (shown_all t) ∙ sym (shown_later 10 t (omega arith)) in
    λ i. record {
      characters = fits_characters 10 t fits i;
      bytes = fits_bytes 10 t fits i;
      breaks = breaks i;
      units_after = units_after i;
      begins_with_feed = true;
      ends_with_return = ends t i;
    }
  where
    ends : (t : List ℕ) → ends_with 13 t ≡ ends_with 13 (10 ∷ t)
    ends [] = refl
    ends (d ∷ t) = refl

return_ends : (d : ℕ) (t : List ℕ) → 1 ≤ ended_before (13 ∷ d ∷ t)
return_ends d t = go (cases_Bool (10 == d))
  where
    many : (b : Bool) → b ≡ true → (n : ℕ) → 1 ≤ cond b 1 0 + n
    many true e n = omega arith
    many false e n = absurd (false≢true e)

    go : ((10 == d) ≡ true) ⊎ ((10 == d) ≡ false) → 1 ≤ ended_before (13 ∷ d ∷ t)
    go (inl e) =
        let first : 1 ≤ ended_before (d ∷ t) = subst (λ x. 1 ≤ ended_before (x ∷ t)) (eqb-true 10 d e) (many true refl (ended_before t)) in
        omega (arith, first)
    go (inr e) = many (not (10 == d)) (ap not e) (ended_before (d ∷ t))

return_plain : (d : ℕ) (t : List ℕ) → units Utf8 (13 ∷ d ∷ t) ≤ most → counts_joined (plain (13 ∷ [])) (plain (d ∷ t)) ≡ plain (13 ∷ d ∷ t)
return_plain d t fits =
    let m : ℕ = sum (cond (not (10 == d)) 1 0) (ended_before (d ∷ t)) in
    let breaks : sum 0 m ≡ cond (not (10 == d)) 1 0 + ended_before (d ∷ t) =
    saturated-zero_left most m ∙ saturated-exact most (cond (not (10 == d)) 1 0) (ended_before (d ∷ t)) (omega (arith, few_ended 13 (d ∷ t) fits, at_most_one (not (10 == d)))) in
    let units_after : after_joined m (shown_all (13 ∷ [])) (shown_all (d ∷ t)) ≡ shown_all (13 ∷ d ∷ t) =
    ap (λ u. after_joined m u (shown_all (d ∷ t))) return_one ∙ none_first m (shown_all (d ∷ t)) ∙ sym (shown_later 13 (d ∷ t) (return_ends d t)) in
    λ i. record {
      characters = fits_characters 13 (d ∷ t) fits i;
      bytes = fits_bytes 13 (d ∷ t) fits i;
      breaks = breaks i;
      units_after = units_after i;
      begins_with_feed = false;
      ends_with_return = ends_with 13 (d ∷ t);
    }

-- a character of a line, before a part in which no break ends
other_more : (encoding : Encoding) (c : ℕ) (t : List ℕ) → (c == 10) ≡ false → (c == 13) ≡ false → ended_before t ≡ 0 → units Utf8 (c ∷ t) ≤ most
    → sum (shown encoding (c ∷ [])) (shown encoding t) ≡ shown encoding (c ∷ t)
other_more encoding c t a b e fits =
    let whole : units encoding (take_while in_line (c ∷ t)) ≡ unit encoding c + units encoding (take_while in_line t) = line-cons encoding c t (goes_on c a b) in
    let all : shown encoding (c ∷ t) ≡ units encoding (take_while in_line (c ∷ t)) = ap (λ l. units encoding (take_while in_line l)) (units_after-none (c ∷ t) feed (other_ended c t a b ∙ e)) in
    let rest : shown encoding t ≡ units encoding (take_while in_line t) = ap (λ l. units encoding (take_while in_line l)) (units_after-none t feed e) in
    let one : shown encoding (c ∷ []) ≡ unit encoding c = other_one encoding c a b in
    let few : shown encoding (c ∷ []) + shown encoding t ≤ most = omega (arith, whole, rest, one, fits, line-le encoding (c ∷ t), units-le encoding (c ∷ t)) in
    saturated-exact most (shown encoding (c ∷ [])) (shown encoding t) few ∙ omega (arith, whole, all, rest, one)

other_plain : (c d : ℕ) (t : List ℕ) → (c == 10) ≡ false → (c == 13) ≡ false → units Utf8 (c ∷ d ∷ t) ≤ most → counts_joined (plain (c ∷ [])) (plain (d ∷ t)) ≡ plain (c ∷ d ∷ t)
other_plain c d t a b fits =
    let breaks : sum (ended_before (c ∷ [])) m ≡ ended_before (c ∷ d ∷ t) =
    ap (λ n. sum n m) (other_ended c [] a b) ∙ saturated-zero_left most m ∙ same ∙ sym (other_ended c (d ∷ t) a b) in
    λ i. record {
      characters = fits_characters c (d ∷ t) fits i;
      bytes = fits_bytes c (d ∷ t) fits i;
      breaks = breaks i;
      units_after = (ap (λ n. after_joined n (shown_all (c ∷ [])) (shown_all (d ∷ t))) same ∙ units_after (ended_before (d ∷ t)) refl) i;
      begins_with_feed = 10 == c;
      ends_with_return = ends_with 13 (d ∷ t);
    }
  where
    m : ℕ
    m = sum (cond ((13 == c) && not (10 == d)) 1 0) (ended_before (d ∷ t))

    same : m ≡ ended_before (d ∷ t)
    same = ap (λ x. sum (cond (x && not (10 == d)) 1 0) (ended_before (d ∷ t))) (turned 13 c ∙ b) ∙ saturated-zero_left most (ended_before (d ∷ t))

    units_after : (n : ℕ) → ended_before (d ∷ t) ≡ n → after_joined n (shown_all (c ∷ [])) (shown_all (d ∷ t)) ≡ shown_all (c ∷ d ∷ t)
    units_after zero e = λ i. record { utf8 = other_more Utf8 c (d ∷ t) a b e fits i; utf16 = other_more Utf16 c (d ∷ t) a b e fits i; utf32 = other_more Utf32 c (d ∷ t) a b e fits i }
    units_after (suc n) e = sym (shown_later c (d ∷ t) (omega (arith, e, other_ended c (d ∷ t) a b)))

plain-cons : (c d : ℕ) (t : List ℕ) → Class c → units Utf8 (c ∷ d ∷ t) ≤ most → counts_joined (plain (c ∷ [])) (plain (d ∷ t)) ≡ plain (c ∷ d ∷ t)
plain-cons c d t (Feed e) fits = subst (λ x. counts_joined (plain (x ∷ [])) (plain (d ∷ t)) ≡ plain (x ∷ d ∷ t)) (sym e) (feed_plain (d ∷ t) (subst (λ x. units Utf8 (x ∷ d ∷ t) ≤ most) e fits))
plain-cons c d t (Return e) fits = subst (λ x. counts_joined (plain (x ∷ [])) (plain (d ∷ t)) ≡ plain (x ∷ d ∷ t)) (sym e) (return_plain d t (subst (λ x. units Utf8 (x ∷ d ∷ t) ≤ most) e fits))
plain-cons c d t (Other a b) fits = other_plain c d t a b fits

pub sums_of-cons : (c : ℕ) (t : List ℕ) → units Utf8 (c ∷ t) ≤ most → sums_of (c ∷ t) ≡ joined (sums_of (c ∷ [])) (sums_of t)
sums_of-cons c [] fits = refl
sums_of-cons c (d ∷ t) fits =
    ap Filled (counts_of-plain (c ∷ d ∷ t) ∙ sym (plain-cons c d t (class c) fits) ∙ (λ i. counts_joined (sym (counts_of-plain (c ∷ [])) i) (sym (counts_of-plain (d ∷ t)) i)))

pub sums_of_append : (s t : List ℕ) → units Utf8 (s ++ t) ≤ most → sums_of (s ++ t) ≡ joined (sums_of s) (sums_of t)
sums_of_append [] t fits = refl
sums_of_append (c ∷ s) t fits =
    let rest : units Utf8 (s ++ t) ≤ most = omega (arith, fits, units-cons Utf8 c (s ++ t)) in
    let prefix : units Utf8 (c ∷ s) ≤ most = omega (arith, fits, units-append Utf8 (c ∷ s) t) in
    sums_of-cons c (s ++ t) fits
    ∙ ap (joined (sums_of (c ∷ []))) (sums_of_append s t rest)
    ∙ sym (joined-assoc (sums_of (c ∷ [])) (sums_of s) (sums_of t))
    ∙ ap (λ x. joined x (sums_of t)) (sym (sums_of-cons c s prefix))

-- one character more after
pub sums_of-more : (t : List ℕ) (c : ℕ) (x y : Sums) → (units Utf8 t ≤ most → x ≡ sums_of t) → y ≡ sums_of (c ∷ []) → units Utf8 (t ++ c ∷ []) ≤ most → joined x y ≡ sums_of (t ++ c ∷ [])
sums_of-more t c x y before one fits =
    let prefix : units Utf8 t ≤ most = omega (arith, fits, units-append Utf8 t (c ∷ [])) in
    (λ i. joined (before prefix i) (one i)) ∙ sym (sums_of_append t (c ∷ []) fits)

-- the units of UTF-8 are bytes
pub units-bytes : (t : List ℕ) → units Utf8 t ≡ length (encode_utf8_all t)
units-bytes [] = units-nil Utf8
units-bytes (c ∷ t) = omega (arith, units-cons Utf8 c t, units-bytes t, length-append (encode_utf8 c) (encode_utf8_all t), length-encode c)

pub units-chars : (bs : List ℕ) → IsUtf8 bs → units Utf8 (chars bs) ≡ length bs
units-chars bs u = units-bytes (chars bs) ∙ ap length (encodes-chars bs u)
