-- An offset that is not between a `\r` and its `\n` is at most the end of its line.
use Rattle.definitions.proofs.Std.{◌≡◌, ℕ, zero, suc, ◌+◌, ◌-◌, ◌<◌, ◌≤◌, ◌⊎◌, Bool, true, false, not, ◌||◌, ◌&&◌, ◌==◌, nat_le, List, [], ◌∷◌, length, take, slice_index, slice_index_or, prefix_len, refl, sym, ap, subst, inl, inr, ◌∙◌, cond, drop}
use Rattle.definitions.proofs.Std.{cases_lt, cases_Bool, le-leb, leb-false, eqb-true, or_parts, or_cases, false≢true, get_or-drop, length-prefix_len, prefix_len_stops, arith, length-drop}
use Rattle.definitions.proofs.Common.{Encoding, begins_with, ends_break, break_ends, line_of, line_start, line_from, offset, position, IsInLine}
use Rattle.definitions.proofs.OffsetOfPosition.{ended, ended-cons, none_ended, offset-position}

-- whether a line goes on over the character
abbrev pub in_line : ℕ → Bool
in_line c = not (c == 10 || c == 13)

-- between a `\r` and its `\n`
abbrev Between : List ℕ → ℕ → Type 0
Between t o = (1 ≤ o) × (slice_index t (o - 1) ≡ 13) × (slice_index t o ≡ 10)

between_later : (c r : ℕ) (t : List ℕ) → Between t r → Between (c ∷ t) (suc r)
between_later c r t h =
    let e : suc r - 1 ≡ suc (r - 1) = omega (arith, h.0) in
    (omega arith, subst (λ k. slice_index (c ∷ t) k ≡ 13) (sym e) h.1, h.2)

-- the line of an offset does not begin before the last break that is known to be at or before it
not_before : (o s p d : ℕ) (t : List ℕ) → s ≤ p → s ≤ slice_index_or (s ∷ break_ends p t) (ended o (break_ends p t)) d
unfolding break_ends
not_before o s p d [] l = omega arith
not_before o s p d (c ∷ t) l = go (ends_break c t) (λ r m. not_before o r (p + 1) d t m)
  where
    rest : List ℕ
    rest = break_ends (p + 1) t

    at : (b : Bool) → nat_le (p + 1) o ≡ b → (p + 1 ≤ slice_index_or ((p + 1) ∷ rest) (ended o rest) d) → s ≤ slice_index_or (s ∷ (p + 1) ∷ rest) (ended o ((p + 1) ∷ rest)) d
    at true e ih =
        let one : ended o ((p + 1) ∷ rest) ≡ suc (ended o rest) = ended-cons o (p + 1) rest true e ∙ omega arith in
        let far : s ≤ slice_index_or ((p + 1) ∷ rest) (ended o rest) d = omega arith in
        rw one far
    at false e ih =
        let none : ended o ((p + 1) ∷ rest) ≡ 0 = ended-cons o (p + 1) rest false e ∙ omega (arith, none_ended o (p + 1) t (omega (arith, leb-false _ _ e))) in
        let here : s ≤ s = omega arith in
        rw none here

    go : (b : Bool) → ((r : ℕ) → r ≤ p + 1 → r ≤ slice_index_or (r ∷ rest) (ended o rest) d) → s ≤ slice_index_or (s ∷ cond b ((p + 1) ∷ rest) rest) (ended o (cond b ((p + 1) ∷ rest) rest)) d
    go false ih = ih s (omega arith)
    go true ih = at (nat_le (p + 1) o) refl (ih (p + 1) (omega arith))

-- it begins after a break that ends at or before it
past_break : (o s p d c : ℕ) (t : List ℕ) → ends_break c t ≡ true → p + 1 ≤ o → p + 1 ≤ slice_index_or (s ∷ break_ends p (c ∷ t)) (ended o (break_ends p (c ∷ t))) d
unfolding break_ends
past_break o s p d c t h l = go (ends_break c t) h
  where
    rest : List ℕ
    rest = break_ends (p + 1) t

    go : (b : Bool) → b ≡ true → p + 1 ≤ slice_index_or (s ∷ cond b ((p + 1) ∷ rest) rest) (ended o (cond b ((p + 1) ∷ rest) rest)) d
    go true e =
        let one : ended o ((p + 1) ∷ rest) ≡ suc (ended o rest) = ended-cons o (p + 1) rest true (le-leb _ _ l) ∙ omega arith in
        let far : p + 1 ≤ slice_index_or ((p + 1) ∷ rest) (ended o rest) d = not_before o (p + 1) (p + 1) d t (omega arith) in
        rw one far
    go false e = absurd (false≢true e)

-- a character that ends no break, and over which no line goes on, is a `\r` before a `\n`
half : (c : ℕ) (t : List ℕ) → ends_break c t ≡ false → in_line c ≡ false → (c ≡ 13) × ((u : List ℕ) × (t ≡ 10 ∷ u))
half c t e f =
    let parts = or_parts _ _ e in
    go (or_cases _ _ (not_false _ f)) parts.0 parts.1 t refl
  where
    not_false : (b : Bool) → not b ≡ false → b ≡ true
    not_false true e = refl
    not_false false e = absurd (false≢true (sym e))

    begins : (u : List ℕ) → (true && not (begins_with 10 u)) ≡ false → (w : List ℕ) × (u ≡ 10 ∷ w)
    begins [] h = absurd (false≢true (sym h))
    begins (d ∷ u) h = let same : 10 ≡ d = eqb-true 10 d (not_false _ h) in (u, ap (λ x. x ∷ u) (sym same))

    go : ((c == 10) ≡ true) ⊎ ((c == 13) ≡ true) → (c == 10) ≡ false → (c == 13 && not (begins_with 10 t)) ≡ false → (u : List ℕ) → t ≡ u → (c ≡ 13) × ((w : List ℕ) × (t ≡ 10 ∷ w))
    go (inl a) g h u s = absurd (false≢true (sym g ∙ a))
    go (inr a) g h u s = (eqb-true c 13 a, begins t (subst (λ b. (b && not (begins_with 10 t)) ≡ false) a h))

-- the line of an offset, among the breaks after place p
abbrev from_place : ℕ → ℕ → ℕ → List ℕ → ℕ → ℕ
from_place o s p ends d = slice_index_or (s ∷ ends) (ended o ends) d

opened : (o s p d c : ℕ) (t : List ℕ) (n : ℕ) (b : Bool) → ends_break c t ≡ b → from_place o s p (break_ends p (c ∷ t)) d ≤ n
    → from_place o s p (cond b ((p + 1) ∷ break_ends (p + 1) t) (break_ends (p + 1) t)) d ≤ n
unfolding break_ends
opened o s p d c t n b same e = subst (λ v. from_place o s p (cond v ((p + 1) ∷ break_ends (p + 1) t) (break_ends (p + 1) t)) d ≤ n) same e

-- no `\r` before a `\n` is the last character before the offset, and none stands further to the left in its line
no_half : (r p s d c : ℕ) (t u : List ℕ) → t ≡ 10 ∷ u → c ≡ 13 → ends_break c t ≡ false → ¬ Between (c ∷ t) (suc r) → from_place (p + suc r) s p (break_ends p (c ∷ t)) d ≤ p + 0 → ⊥
no_half zero p s d c t u w is f nb e = nb (omega arith, is, ap (λ l. slice_index l 0) w)
no_half (suc q) p s d c t u w is f nb e =
    let skip : from_place (p + suc (suc q)) s (p + 1) (break_ends (p + 1) t) d ≤ p + 0 = opened (p + suc (suc q)) s p d c t (p + 0) false f e in
    let far : p + 1 + 1 ≤ from_place (p + suc (suc q)) s (p + 1) (break_ends (p + 1) (10 ∷ u)) d = past_break (p + suc (suc q)) s (p + 1) d 10 u refl (omega arith) in
    let there : p + 1 + 1 ≤ from_place (p + suc (suc q)) s (p + 1) (break_ends (p + 1) t) d = subst (λ l. p + 1 + 1 ≤ from_place (p + suc (suc q)) s (p + 1) (break_ends (p + 1) l) d) (sym w) far in
    omega (arith, skip, there)

-- the line goes on over each character between its begin and the offset
covers : (r p s d : ℕ) (t : List ℕ) → s ≤ p → r ≤ length t → ¬ Between t r → (j : ℕ) → j < r → from_place (p + r) s p (break_ends p t) d ≤ p + j → in_line (slice_index t j) ≡ true
covers r p s d [] sp rl nb j jr e = absurd (omega (arith, rl, jr))
covers zero p s d (c ∷ t) sp rl nb j jr e = absurd (omega (arith, jr))
covers (suc r) p s d (c ∷ t) sp rl nb zero jr e = at (cases_Bool (ends_break c t)) (cases_Bool (in_line c))
  where
    at : (ends_break c t ≡ true) ⊎ (ends_break c t ≡ false) → (in_line c ≡ true) ⊎ (in_line c ≡ false) → in_line c ≡ true
    at (inl b) g =
        let far : p + 1 ≤ from_place (p + suc r) s p (break_ends p (c ∷ t)) d = past_break (p + suc r) s p d c t b (omega arith) in
        absurd (omega (arith, far, e))
    at (inr b) (inl g) = g
    at (inr b) (inr g) = let h = half c t b g in absurd (no_half r p s d c t h.1.0 h.1.1 h.0 b nb e)
covers (suc r) p s d (c ∷ t) sp rl nb (suc j) jr e =
    go (λ v m. covers r (p + 1) v d t m (omega (arith, rl)) (λ b. nb (between_later c r t b)) j (omega (arith, jr)))
    (ends_break c t) (opened (p + suc r) s p d c t (p + suc j) (ends_break c t) refl e)
  where
    rest : List ℕ
    rest = break_ends (p + 1) t

    next : ((v : ℕ) → v ≤ p + 1 → from_place (p + 1 + r) v (p + 1) rest d ≤ p + 1 + j → in_line (slice_index t j) ≡ true) → (v : ℕ) → v ≤ p + 1
        → from_place (p + suc r) v (p + 1) rest d ≤ p + suc j → in_line (slice_index t j) ≡ true
    next later v m h =
        let same : p + suc r ≡ p + 1 + r = omega arith in
        let near : from_place (p + suc r) v (p + 1) rest d ≤ p + 1 + j = omega (arith, h) in
        later v m (subst (λ o. from_place o v (p + 1) rest d ≤ p + 1 + j) same near)

    go : ((v : ℕ) → v ≤ p + 1 → from_place (p + 1 + r) v (p + 1) rest d ≤ p + 1 + j → in_line (slice_index t j) ≡ true) → (b : Bool)
        → from_place (p + suc r) s p (cond b ((p + 1) ∷ rest) rest) d ≤ p + suc j → in_line (slice_index t j) ≡ true
    go later false h = next later s (omega arith) h
    go later true h =
        let one : ended (p + suc r) ((p + 1) ∷ rest) ≡ suc (ended (p + suc r) rest) = ended-cons (p + suc r) (p + 1) rest true (le-leb _ _ (omega arith)) ∙ omega arith in
        next later (p + 1) (omega arith) (subst (λ k. slice_index_or (s ∷ (p + 1) ∷ rest) k d ≤ p + suc j) one h)

pub in_line_end : (t : List ℕ) (o : ℕ) → IsInLine t o → o ≤ line_start t (line_of t o) + length (line_from (line_start t (line_of t o)) t)
unfolding line_start line_of line_from
in_line_end t o inside = go (cases_lt (start + n) o)
  where
    start : ℕ
    start = slice_index_or (0 ∷ break_ends 0 t) (ended o (break_ends 0 t)) (length t)

    n : ℕ
    n = prefix_len in_line (drop start t)

    long : length (take n (drop start t)) ≡ n
    long = length-prefix_len in_line (drop start t)

    go : (start + n < o) ⊎ (o ≤ start + n) → o ≤ start + length (take n (drop start t))
    go (inr l) = omega (arith, l, long)
    go (inl l) =
        let stops : in_line (slice_index (drop start t) n) ≡ false = prefix_len_stops in_line (drop start t) 0 (omega (arith, l, inside.0, length-drop start t)) in
        let here : in_line (slice_index t (start + n)) ≡ false = subst (λ c. in_line c ≡ false) (get_or-drop start t n 0) stops in
        let whole : 0 + o ≡ o = omega arith in
        let from : start ≤ 0 + (start + n) = omega arith in
        let goes : in_line (slice_index t (start + n)) ≡ true = covers o 0 0 (length t) t (omega arith) inside.0 inside.1 (start + n) l
        (subst (λ m. slice_index_or (0 ∷ break_ends 0 t) (ended m (break_ends 0 t)) (length t) ≤ 0 + (start + n)) (sym whole) from) in
        absurd (false≢true (sym here ∙ goes))

pub offset-of_position : (encoding : Encoding) (t : List ℕ) (o : ℕ) → IsInLine t o → offset encoding t (position encoding t o) ≡ o
offset-of_position encoding t o h = offset-position encoding t o (in_line_end t o h)
