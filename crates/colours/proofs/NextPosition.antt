-- How the position of an offset follows from that of an earlier one.
use Rattle.colours.proofs.Std.{◌*◌, ◌+◌, ◌-◌, ◌<◌, ◌≤◌, ◌≡◌, ◌≢◌, ◌∙◌, ◌∷◌, ◌⊎◌, ◌==◌, ◌||◌, Bool, List, [], All, ap, cond, drop, false, inl, inr, length, nat_le, nat_lt, not, prefix_len, refl, slice_index, slice_index_or, subst, suc, sym, take, true, zero, ℕ}
use Rattle.colours.proofs.Std.{arith, drop-drop, get_or-drop, length-drop, length-take, take-take, take_all, drop_more, prefix_len_passes, prefix_len_stops, sum_by-append, sum_by-cons, count_by-le-length, take-add, cases_lt, false≢true, le-leb, lt-leb, lt-ltb, ne_eqb}
use Rattle.colours.proofs.Std.{len_utf8_ascii, len_utf8_bounds, length-prefix_len}
use Rattle.colours.proofs.Common.{ended, ended-cons, in_line_end, length-line_from, line_of-place, line_start-le, none_ended, unit, break_ends, ends_break, line_from, line_of, line_start, offset, position, units, Position, Encoding, Utf8, Utf16, Utf32, line_end, greatest-is}
use Rattle.colours.specs.Steps.{IsPlain}

-- whether a line goes on over the character
abbrev pub goes_on : ℕ → Bool
goes_on c = not (c == 10 || c == 13)

pub on_line : (c : ℕ) → c ≢ 10 → c ≢ 13 → goes_on c ≡ true
on_line c a b = rw (ne_eqb c 10 a, ne_eqb c 13 b) refl

lines_in : (t : List ℕ) (o : ℕ) → line_of t o ≤ length (break_ends 0 t)
unfolding line_of
lines_in t o = count_by-le-length _ (break_ends 0 t)

-- the units before an offset in the line from `s`
abbrev count : Encoding → List ℕ → ℕ → ℕ → ℕ
count encoding t s i = units encoding (take (i - s) (line_from s t))

-- ---- units

unit-le : (encoding : Encoding) (c : ℕ) → unit encoding c ≤ 4
unit-le Utf8 c = (len_utf8_bounds c).1
unit-le Utf16 c = go (nat_lt c 0x1_0000)
  where
    go : (b : Bool) → cond b 1 2 ≤ 4
    go true = omega arith
    go false = omega arith
unit-le Utf32 c = omega arith

units-le : (encoding : Encoding) (xs : List ℕ) → units encoding xs ≤ 4 * length xs
unfolding units
units-le encoding [] = omega arith
units-le encoding (c ∷ xs) = omega (arith, sum_by-cons (unit encoding) c xs, unit-le encoding c, units-le encoding xs)

unit-plain : (encoding : Encoding) (c : ℕ) → c < 128 → unit encoding c ≡ 1
unit-plain Utf8 c l = len_utf8_ascii c l
unit-plain Utf16 c l = ap (λ b. cond b 1 2) (lt-ltb c 0x1_0000 (omega (arith, l)))
unit-plain Utf32 c l = refl

pub units-plain : (encoding : Encoding) (xs : List ℕ) → All IsPlain xs → units encoding xs ≡ length xs
unfolding units
units-plain encoding [] h = refl
units-plain encoding (c ∷ xs) h =
    omega (arith, sum_by-cons (unit encoding) c xs, unit-plain encoding c (h 0 0 (omega arith)).0, units-plain encoding xs (λ k d l. h (suc k) d (omega (arith, l))))

pub units-one : (encoding : Encoding) (c : ℕ) → units encoding (c ∷ []) ≡ unit encoding c
unfolding units
units-one encoding c = omega arith

breaks-le : (p : ℕ) (t : List ℕ) → length (break_ends p t) ≤ length t
unfolding break_ends
breaks-le p [] = omega arith
breaks-le p (c ∷ t) = go (ends_break c t) (breaks-le (p + 1) t)
  where
    rest : List ℕ
    rest = break_ends (p + 1) t

    go : (b : Bool) → length rest ≤ length t → length (cond b ((p + 1) ∷ rest) rest) ≤ suc (length t)
    go true h = omega (arith, h)
    go false h = omega (arith, h)

pub position-line : (encoding : Encoding) (t : List ℕ) (o : ℕ) → (position encoding t o).line ≤ length t
unfolding position
position-line encoding t o = omega (arith, lines_in t o, breaks-le 0 t)

pub position-character : (encoding : Encoding) (t : List ℕ) (o : ℕ) → (position encoding t o).character ≤ 4 * length t
unfolding position
position-character encoding t o =
    let s : ℕ = line_start t (line_of t o) in
    omega (arith, units-le encoding (take (o - s) (line_from s t)), length-take (o - s) (line_from s t), length-line_from s t)

-- ---- along a line

module _ (encoding : Encoding) (t : List ℕ) (i n : ℕ) (some : 1 ≤ n) (l : i + n ≤ length t)
    (goes : (k : ℕ) → k < n → goes_on (slice_index t (i + k)) ≡ true) where
  abbrev s : ℕ
  s = line_start t (line_of t i)

  abbrev m : ℕ
  m = prefix_len goes_on (drop s t)

  begun : s ≤ i
  begun = line_start-le t i

  first : slice_index t i ≢ 10
  first h =
      let here : i + 0 ≡ i = omega arith in
      false≢true (ap goes_on (sym h) ∙ ap (λ j. goes_on (slice_index t j)) (sym here) ∙ goes 0 (omega arith))

  inside : i ≤ s + length (line_from s t)
  inside = in_line_end t i (omega arith, λ h. first h.2)

  long : length (line_from s t) ≡ m
  unfolding line_from
  long = length-prefix_len goes_on (drop s t)

  reach : i - s + n ≤ m
  reach = go (cases_lt m (i - s + n))
    where
      go : (m < i - s + n) ⊎ (i - s + n ≤ m) → i - s + n ≤ m
      go (inr h) = h
      go (inl h) =
          let stops : goes_on (slice_index (drop s t) m) ≡ false = prefix_len_stops goes_on (drop s t) 0 (omega (arith, h, begun, length-drop s t)) in
          let there : s + m ≡ i + (s + m - i) = omega (arith, inside, long) in
          let passes : goes_on (slice_index t (i + (s + m - i))) ≡ true = goes (s + m - i) (omega (arith, h, begun, inside, long)) in
          absurd (false≢true (sym stops ∙ ap goes_on (get_or-drop s t m 0) ∙ ap (λ j. goes_on (slice_index t j)) there ∙ passes))

  same_line : line_of t (i + n) ≡ line_of t i
  same_line =
      let there : i + n ≡ s + (i - s + n) = omega (arith, begun) in
      ap (line_of t) there ∙ line_of-place t (line_of t i) (i - s + n) (lines_in t i) (omega (arith, reach, long))

  counted : count encoding t s (i + n) ≡ count encoding t s i + units encoding (take n (drop i t))
  unfolding units line_from
  counted =
      let more : i + n - s ≡ i - s + n = omega (arith, begun) in
      let back : s + (i - s) ≡ i = omega (arith, begun) in
      ap (λ k. units encoding (take k (line_from s t))) more
      ∙ ap (units encoding) (take-take (i - s + n) m (drop s t) reach ∙ take-add (i - s) n (drop s t))
      ∙ sum_by-append (unit encoding) (take (i - s) (drop s t)) (take n (drop (i - s) (drop s t)))
      ∙ ap (λ xs. units encoding xs + units encoding (take n (drop (i - s) (drop s t)))) (sym (take-take (i - s) m (drop s t) (omega (arith, reach))))
      ∙ ap (λ xs. units encoding (take (i - s) (take m (drop s t))) + units encoding (take n xs)) (drop-drop (i - s) s t ∙ ap (λ k. drop k t) back)

  pub position-along : (p : Position) → p ≡ position encoding t i
      → ◌≡◌ {A = Position} (record { line = p.line; character = p.character + units encoding (take n (drop i t)) }) (position encoding t (i + n))
  unfolding position
  position-along p is =
      let line : p.line ≡ line_of t (i + n) = ap (λ q. q.line) is ∙ sym same_line in
      let more : p.character + units encoding (take n (drop i t)) ≡ count encoding t (line_start t (line_of t (i + n))) (i + n) =
      ap (λ q. q.character + units encoding (take n (drop i t))) is ∙ sym counted ∙ ap (λ k. count encoding t (line_start t k) (i + n)) (sym same_line) in
      λ k. record { line = line k; character = more k }

-- ---- at a break

-- the break that ends after place `i` is the one behind those that end at or before it
break_at : (p i d : ℕ) (t : List ℕ) → i < length t → ends_break (slice_index t i) (drop (i + 1) t) ≡ true
    → (ended (p + i) (break_ends p t) < length (break_ends p t)) × (slice_index_or (break_ends p t) (ended (p + i) (break_ends p t)) d ≡ p + i + 1)
unfolding break_ends
break_at p i d [] l e = absurd (omega (arith, l))
break_at p zero d (c ∷ t) l e =
    let rest : List ℕ = break_ends (p + 1) t in
    let here : break_ends p (c ∷ t) ≡ (p + 1) ∷ rest = ap (λ b. cond b ((p + 1) ∷ rest) rest) e in
    let none : ended (p + 0) ((p + 1) ∷ rest) ≡ 0 = ended-cons (p + 0) (p + 1) rest false (lt-leb _ _ (omega arith)) ∙ omega (arith, none_ended (p + 0) (p + 1) t (omega arith)) in
    let at : p + 1 ≡ p + 0 + 1 = omega arith in
    subst (λ xs. (ended (p + 0) xs < length xs) × (slice_index_or xs (ended (p + 0) xs) d ≡ p + 0 + 1)) (sym here)
    (omega (arith, none), ap (λ k. slice_index_or ((p + 1) ∷ rest) k d) none ∙ at)
break_at p (suc i) d (c ∷ t) l e =
    let far : p + 1 + i ≡ p + suc i = omega arith in
    let more : suc i + 1 ≡ suc (i + 1) = omega arith in
    go (ends_break c t) (subst (λ o. (ended o (break_ends (p + 1) t) < length (break_ends (p + 1) t)) × (slice_index_or (break_ends (p + 1) t) (ended o (break_ends (p + 1) t)) d ≡ o + 1))
    far (break_at (p + 1) i d t (omega (arith, l)) (subst (λ n. ends_break (slice_index t i) (drop n (c ∷ t)) ≡ true) more e)))
  where
    rest : List ℕ
    rest = break_ends (p + 1) t

    go : (b : Bool) → (ended (p + suc i) (break_ends (p + 1) t) < length (break_ends (p + 1) t))
        × (slice_index_or (break_ends (p + 1) t) (ended (p + suc i) (break_ends (p + 1) t)) d ≡ p + suc i + 1)
        → (ended (p + suc i) (cond b ((p + 1) ∷ rest) rest) < length (cond b ((p + 1) ∷ rest) rest))
        × (slice_index_or (cond b ((p + 1) ∷ rest) rest) (ended (p + suc i) (cond b ((p + 1) ∷ rest) rest)) d ≡ p + suc i + 1)
    go false moved = moved
    go true moved =
        let one : ended (p + suc i) ((p + 1) ∷ rest) ≡ suc (ended (p + suc i) rest) = ended-cons (p + suc i) (p + 1) rest true (le-leb _ _ (omega arith)) ∙ omega arith in
        (omega (arith, one, moved.0), ap (λ k. slice_index_or ((p + 1) ∷ rest) k d) one ∙ moved.1)

-- where none ends after place `i`, as many end at or before the next place
no_break_at : (p i : ℕ) (t : List ℕ) → i < length t → ends_break (slice_index t i) (drop (i + 1) t) ≡ false
    → ended (p + i + 1) (break_ends p t) ≡ ended (p + i) (break_ends p t)
unfolding break_ends
no_break_at p i [] l e = absurd (omega (arith, l))
no_break_at p zero (c ∷ t) l e =
    let rest : List ℕ = break_ends (p + 1) t in
    let here : break_ends p (c ∷ t) ≡ rest = ap (λ b. cond b ((p + 1) ∷ rest) rest) e in
    subst (λ xs. ended (p + 0 + 1) xs ≡ ended (p + 0) xs) (sym here) (omega (arith, none_ended (p + 0 + 1) (p + 1) t (omega arith), none_ended (p + 0) (p + 1) t (omega arith)))
no_break_at p (suc i) (c ∷ t) l e =
    let far : p + 1 + i ≡ p + suc i = omega arith in
    let more : suc i + 1 ≡ suc (i + 1) = omega arith in
    go (ends_break c t) (subst (λ o. ended (o + 1) (break_ends (p + 1) t) ≡ ended o (break_ends (p + 1) t)) far
    (no_break_at (p + 1) i t (omega (arith, l)) (subst (λ n. ends_break (slice_index t i) (drop n (c ∷ t)) ≡ false) more e)))
  where
    rest : List ℕ
    rest = break_ends (p + 1) t

    go : (b : Bool) → ended (p + suc i + 1) (break_ends (p + 1) t) ≡ ended (p + suc i) (break_ends (p + 1) t)
        → ended (p + suc i + 1) (cond b ((p + 1) ∷ rest) rest) ≡ ended (p + suc i) (cond b ((p + 1) ∷ rest) rest)
    go false moved = moved
    go true moved =
        ended-cons (p + suc i + 1) (p + 1) rest true (le-leb _ _ (omega arith)) ∙ ap (λ n. 1 + n) moved ∙ sym (ended-cons (p + suc i) (p + 1) rest true (le-leb _ _ (omega arith)))

next_start : (ends : List ℕ) (k d : ℕ) → slice_index_or (0 ∷ ends) (k + 1) d ≡ slice_index_or ends k d
next_start ends k d = let more : k + 1 ≡ suc k = omega arith in ap (λ n. slice_index_or (0 ∷ ends) n d) more

module _ (encoding : Encoding) (t rest : List ℕ) (i c : ℕ) (p : Position) (e : drop i t ≡ c ∷ rest) (is : p ≡ position encoding t i) where
  pub within : i < length t
  within = go (cases_lt i (length t))
    where
      go : (i < length t) ⊎ (length t ≤ i) → i < length t
      go (inl h) = h
      go (inr h) = absurd (omega (arith, h, ap length e, length-drop i t))

  both : c ∷ rest ≡ slice_index t i ∷ drop (i + 1) t
  both = sym e ∙ drop_more t i 0 within

  pub char_is : c ≡ slice_index t i
  char_is = ap (λ xs. slice_index xs 0) both

  pub rest_is : rest ≡ drop (i + 1) t
  rest_is = ap (drop 1) both

  pub position-break : ends_break c rest ≡ true → ◌≡◌ {A = Position} (record { line = p.line + 1; character = 0 }) (position encoding t (i + 1))
  unfolding position line_of line_start units
  position-break h =
      let at = break_at 0 i (length t) t within ((λ k. ends_break (sym char_is k) (sym rest_is k)) ∙ h) in
      let place : 0 + i ≡ i = omega arith in
      let found : slice_index_or (break_ends 0 t) (ended i (break_ends 0 t)) (length t) ≡ i + 1 =
      subst (λ o. slice_index_or (break_ends 0 t) (ended o (break_ends 0 t)) (length t) ≡ o + 1) place at.1 in
      let some : ended i (break_ends 0 t) < length (break_ends 0 t) = subst (λ o. ended o (break_ends 0 t) < length (break_ends 0 t)) place at.0 in
      let there : line_start t (line_of t i + 1) ≡ i + 1 = next_start (break_ends 0 t) (line_of t i) (length t) ∙ found in
      let here : line_start t (line_of t i + 1) + 0 ≡ i + 1 = omega (arith, there) in
      let next : line_of t (i + 1) ≡ line_of t i + 1 = ap (line_of t) (sym here) ∙ line_of-place t (line_of t i + 1) 0 (omega (arith, some)) (omega arith) in
      let line : p.line + 1 ≡ line_of t (i + 1) = ap (λ q. q.line + 1) is ∙ sym next in
      let zero_many : i + 1 - (i + 1) ≡ 0 = omega arith in
      let none : 0 ≡ count encoding t (line_start t (line_of t (i + 1))) (i + 1) =
      sym (ap (λ k. count encoding t (line_start t k) (i + 1)) next ∙ ap (λ k. count encoding t k (i + 1)) there ∙ ap (λ k. units encoding (take k (line_from (i + 1) t))) zero_many) in
      λ k. record { line = line k; character = none k }

  -- the line before a character that is no part of it
  short : goes_on c ≡ false → length (line_from (line_start t (line_of t i)) t) ≤ i - line_start t (line_of t i)
  unfolding line_from
  short f = go (cases_lt (i - s) n)
    where
      s : ℕ
      s = line_start t (line_of t i)

      n : ℕ
      n = prefix_len goes_on (drop s t)

      go : (i - s < n) ⊎ (n ≤ i - s) → length (line_from s t) ≤ i - s
      go (inr h) = omega (arith, h, length-prefix_len goes_on (drop s t))
      go (inl h) =
          let back : s + (i - s) ≡ i = omega (arith, line_start-le t i) in
          let passes : goes_on (slice_index (drop s t) (i - s)) ≡ true = prefix_len_passes goes_on (drop s t) (i - s) 0 h in
          absurd (false≢true (sym f ∙ ap goes_on (char_is ∙ ap (slice_index t) (sym back) ∙ sym (get_or-drop s t (i - s) 0)) ∙ passes))

  same : ends_break c rest ≡ false → line_of t (i + 1) ≡ line_of t i
  unfolding line_of
  same h =
      let place : 0 + i ≡ i = omega arith in
      subst (λ o. ended (o + 1) (break_ends 0 t) ≡ ended o (break_ends 0 t)) place (no_break_at 0 i t within ((λ k. ends_break (sym char_is k) (sym rest_is k)) ∙ h))

  pub line-same : ends_break c rest ≡ false → p.line ≡ (position encoding t (i + 1)).line
  unfolding position
  line-same h = ap (λ q. q.line) is ∙ sym (same h)

  pub position-return : ends_break c rest ≡ false → goes_on c ≡ false → p ≡ position encoding t (i + 1)
  unfolding position
  position-return h f =
      let s : ℕ = line_start t (line_of t i) in
      let all : count encoding t s i ≡ count encoding t s (i + 1) =
      ap (units encoding) (take_all (i - s) (line_from s t) (short f) ∙ sym (take_all (i + 1 - s) (line_from s t) (omega (arith, short f)))) in
      let line : line_of t i ≡ line_of t (i + 1) = sym (same h) in
      let units : count encoding t s i ≡ count encoding t (line_start t (line_of t (i + 1))) (i + 1) = all ∙ ap (λ k. count encoding t (line_start t k) (i + 1)) line in
      is ∙ (λ k. record { line = line k; character = units k })

  -- where none ends after it, it is no `\n`
  no_feed : ends_break c rest ≡ false → c ≢ 10
  no_feed h ten = false≢true (sym h ∙ ap (λ d. ends_break d rest) ten)

  here : take 1 (drop i t) ≡ c ∷ []
  here = ap (take 1) e

  pub position-other : ends_break c rest ≡ false → c ≢ 13
      → ◌≡◌ {A = Position} (record { line = p.line; character = p.character + unit encoding c }) (position encoding t (i + 1))
  position-other h r =
      let on : (k : ℕ) → k < 1 → goes_on (slice_index t (i + k)) ≡ true =
      λ k l. let same : i + k ≡ i = omega (arith, l) in ap (λ j. goes_on (slice_index t j)) same ∙ ap goes_on (sym char_is) ∙ on_line c (no_feed h) r in
      ap (λ n. record { line = p.line; character = p.character + n }) (sym (units-one encoding c) ∙ ap (units encoding) (sym here))
      ∙ position-along encoding t i 1 (omega arith) (omega (arith, within)) on p is

-- ---- the end of a line

module _ (encoding : Encoding) (t : List ℕ) (few : length t ≤ 1048576) where
  whole : (l : ℕ) → l ≤ length (break_ends 0 t) → line_end encoding t l ≡ units encoding (line_from (line_start t l) t)
  unfolding offset position
  whole l near =
      let s : ℕ = line_start t l in
      let line : List ℕ = line_from s t in
      let n : ℕ = length line in
      let small : units encoding (take n line) ≤ 4294967295 = omega (arith, units-le encoding (take n line), length-take n line, length-line_from s t) in
      let last : offset encoding t (record { line = l; character = 4294967295 }) ≡ s + n =
      ap (λ k. s + k) (greatest-is (λ k. nat_le (units encoding (take k line)) 4294967295) n n (omega arith) (le-leb _ _ small) (λ k a b. absurd (omega (arith, a, b)))) in
      let at : line_of t (s + n) ≡ l = line_of-place t l n near (omega arith) in
      let back : s + n - s ≡ n = omega arith in
      ap (λ o. (position encoding t o).character) last
      ∙ ap (λ k. units encoding (take (s + n - line_start t k) (line_from (line_start t k) t))) at
      ∙ ap (λ k. units encoding (take k line)) back ∙ ap (units encoding) (take_all n line (omega arith))

  pub line_end-is : (rest : List ℕ) (i c : ℕ) (p : Position) → drop i t ≡ c ∷ rest → p ≡ position encoding t i → goes_on c ≡ false
      → p.character ≡ line_end encoding t p.line
  unfolding position
  line_end-is rest i c p e is f =
      let s : ℕ = line_start t (line_of t i) in
      ap (λ q. q.character) is ∙ ap (units encoding) (take_all (i - s) (line_from s t) (short encoding t rest i c p e is f))
      ∙ sym (whole (line_of t i) (lines_in t i)) ∙ ap (λ (q : Position). line_end encoding t q.line) (sym is)
