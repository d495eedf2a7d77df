-- The offset of the position of an offset is that offset, but after the end of its line, between a `\r` and its `\n`.
use Rattle.definitions.proofs.Std.{◌≡◌, ℕ, zero, suc, ◌+◌, ◌-◌, ◌<◌, ◌≤◌, ◌⊎◌, Bool, true, false, nat_le, nat_lt, List, [], ◌∷◌, length, take, slice_index_or, count_by, cases_lt, lt-leb, leb-true, leb-false, sum_by-cons, arith, refl, ap, inl, inr, ◌∙◌, cond}
use Rattle.definitions.proofs.Common.{Encoding, Utf8, Utf16, Utf32, ends_break, break_ends, line_of, line_start, line_from, unit, units, offset, position, IsOffset}
use Rattle.definitions.proofs.TextLaws.{IsOffset-offset}

-- how many of the breaks after place p end at or before offset o
abbrev pub ended : ℕ → List ℕ → ℕ
ended o ends = count_by (λ e. nat_le e o) ends

pub ended-cons : (o e : ℕ) (ends : List ℕ) (b : Bool) → nat_le e o ≡ b → ended o (e ∷ ends) ≡ cond b 1 0 + ended o ends
ended-cons o e ends b h = sum_by-cons (λ x. cond (nat_le x o) 1 0) e ends ∙ ap (λ c. cond c 1 0 + ended o ends) h

-- a break after a place ends past it
pub none_ended : (o p : ℕ) (t : List ℕ) → o ≤ p → ended o (break_ends p t) ≡ 0
unfolding break_ends
none_ended o p [] l = refl
none_ended o p (c ∷ t) l = go (ends_break c t) (none_ended o (p + 1) t (omega arith))
  where
    go : (b : Bool) → ended o (break_ends (p + 1) t) ≡ 0 → ended o (cond b ((p + 1) ∷ break_ends (p + 1) t) (break_ends (p + 1) t)) ≡ 0
    go false e = e
    go true e = ended-cons o (p + 1) (break_ends (p + 1) t) false (lt-leb _ _ (omega arith)) ∙ omega (arith, e)

-- the last of s and the breaks that end at or before o is at most o
last_ended : (o s p d : ℕ) (t : List ℕ) → s ≤ o → slice_index_or (s ∷ break_ends p t) (ended o (break_ends p t)) d ≤ o
unfolding break_ends
last_ended o s p d [] l = l
last_ended o s p d (c ∷ t) l = go (ends_break c t) (λ r m. last_ended o r (p + 1) d t m)
  where
    rest : List ℕ
    rest = break_ends (p + 1) t

    at : (b : Bool) → nat_le (p + 1) o ≡ b → ((r : ℕ) → r ≤ o → slice_index_or (r ∷ rest) (ended o rest) d ≤ o) → slice_index_or (s ∷ (p + 1) ∷ rest) (ended o ((p + 1) ∷ rest)) d ≤ o
    at true e ih =
        let one : ended o ((p + 1) ∷ rest) ≡ suc (ended o rest) = ended-cons o (p + 1) rest true e ∙ omega arith in
        rw one (ih (p + 1) (leb-true _ _ e))
    at false e ih =
        let none : ended o ((p + 1) ∷ rest) ≡ 0 = ended-cons o (p + 1) rest false e ∙ omega (arith, none_ended o (p + 1) t (omega (arith, leb-false _ _ e))) in
        rw none l

    go : (b : Bool) → ((r : ℕ) → r ≤ o → slice_index_or (r ∷ rest) (ended o rest) d ≤ o) → slice_index_or (s ∷ cond b ((p + 1) ∷ rest) rest) (ended o (cond b ((p + 1) ∷ rest) rest)) d ≤ o
    go false ih = ih s l
    go true ih = at (nat_le (p + 1) o) refl ih

-- the line of an offset begins at or before it
pub line_start-le : (t : List ℕ) (o : ℕ) → line_start t (line_of t o) ≤ o
unfolding line_start line_of
line_start-le t o = last_ended o 0 0 (length t) t (omega arith)

unit-positive : (encoding : Encoding) (c : ℕ) → 1 ≤ unit encoding c
unit-positive Utf8 c = go (nat_lt c 0x80) (nat_lt c 0x800) (nat_lt c 0x1_0000)
  where
    go : (x y z : Bool) → 1 ≤ cond x 1 (cond y 2 (cond z 3 4))
    go true y z = omega arith
    go false true z = omega arith
    go false false true = omega arith
    go false false false = omega arith
unit-positive Utf16 c = go (nat_lt c 0x1_0000)
  where
    go : (x : Bool) → 1 ≤ cond x 1 2
    go true = omega arith
    go false = omega arith
unit-positive Utf32 c = omega arith

-- more characters have more units
pub units-take-lt : (encoding : Encoding) (xs : List ℕ) (m n : ℕ) → m < n → n ≤ length xs → units encoding (take m xs) < units encoding (take n xs)
unfolding units
units-take-lt encoding [] m n l k = absurd (omega arith)
units-take-lt encoding (x ∷ xs) m zero l k = absurd (omega arith)
units-take-lt encoding (x ∷ xs) zero (suc n) l k = omega (arith, sum_by-cons (unit encoding) x (take n xs), unit-positive encoding x)
units-take-lt encoding (x ∷ xs) (suc m) (suc n) l k =
    omega (arith, sum_by-cons (unit encoding) x (take m xs), sum_by-cons (unit encoding) x (take n xs), units-take-lt encoding xs m n (omega arith) (omega arith))

same : (encoding : Encoding) (start : ℕ) (line : List ℕ) (o x : ℕ) → start ≤ o → o ≤ x → x ≤ start + length line
    → units encoding (take (x - start) line) ≤ units encoding (take (o - start) line) → x ≡ o
same encoding start line o x begins up inside counted = go (cases_lt o x)
  where
    go : (o < x) ⊎ (x ≤ o) → x ≡ o
    go (inl l) =
        let more : units encoding (take (o - start) line) < units encoding (take (x - start) line) = units-take-lt encoding line (o - start) (x - start) (omega arith) (omega arith) in
        absurd (omega arith)
    go (inr l) = omega arith

pub offset-position : (encoding : Encoding) (t : List ℕ) (o : ℕ) → o ≤ line_start t (line_of t o) + length (line_from (line_start t (line_of t o)) t) → offset encoding t (position encoding t o) ≡ o
unfolding position
offset-position encoding t o inside =
    let start : ℕ = line_start t (line_of t o) in
    let line : List ℕ = line_from start t in
    let x : ℕ = offset encoding t (position encoding t o) in
    let is : IsOffset encoding start line (units encoding (take (o - start) line)) x = IsOffset-offset encoding t (position encoding t o) in
    let begins : start ≤ o = line_start-le t o in
    let up : o ≤ x = is.greatest o begins inside (omega arith) in
    same encoding start line o x begins up is.to is.counted
