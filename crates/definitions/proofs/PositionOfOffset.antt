-- The position of the offset of a position that counts whole characters of a line is that position.
use Rattle.definitions.proofs.Std.{◌≡◌, ℕ, zero, suc, ◌+◌, ◌-◌, ◌<◌, ◌≤◌, ◌⊎◌, Bool, true, false, not, ◌||◌, ◌&&◌, ◌==◌, nat_le, List, [], ◌∷◌, length, take, slice_index, slice_index_or, prefix_len, refl, sym, ap, subst, inl, inr, ◌∙◌, cond, drop}
use Rattle.definitions.proofs.Std.{cases_lt, le-leb, lt-leb, and_parts, or_cases, false≢true, get_or-drop, length-prefix_len, prefix_len_passes, arith}
use Rattle.definitions.proofs.Common.{Position, Encoding, begins_with, ends_break, break_ends, line_of, line_start, line_from, units, greatest, offset, position, IsPlace}
use Rattle.definitions.proofs.TextLaws.{greatest-is}
use Rattle.definitions.proofs.OffsetOfPosition.{ended, ended-cons, none_ended, units-take-lt}
use Rattle.definitions.proofs.OffsetsInLine.{in_line}

-- lines begin one after another
at_least : (s p k d : ℕ) (t : List ℕ) → s ≤ p → k ≤ length (break_ends p t) → s ≤ slice_index_or (s ∷ break_ends p t) k d
unfolding break_ends
at_least s p zero d [] l m = omega arith
at_least s p (suc k) d [] l m = absurd (omega (arith, m))
at_least s p k d (c ∷ t) l m = go (ends_break c t) k (λ r q i n. at_least r (p + 1) i d t q n) m
  where
    rest : List ℕ
    rest = break_ends (p + 1) t

    go : (b : Bool) (k : ℕ) → ((r : ℕ) → r ≤ p + 1 → (i : ℕ) → i ≤ length rest → r ≤ slice_index_or (r ∷ rest) i d)
        → k ≤ length (cond b ((p + 1) ∷ rest) rest) → s ≤ slice_index_or (s ∷ cond b ((p + 1) ∷ rest) rest) k d
    go false k ih n = ih s (omega arith) k n
    go true zero ih n = omega arith
    go true (suc k) ih n = let far : p + 1 ≤ slice_index_or ((p + 1) ∷ rest) k d = ih (p + 1) (omega arith) k (omega (arith, n)) in omega (arith, far)

breaks : (c : ℕ) (t : List ℕ) → ends_break c t ≡ true → in_line c ≡ true → ⊥
breaks c t e g = go (or_cases _ _ e)
  where
    is_not : (b : Bool) → b ≡ true → not b ≡ true → ⊥
    is_not true h k = false≢true k
    is_not false h k = false≢true h

    go : ((c == 10) ≡ true) ⊎ ((c == 13 && not (begins_with 10 t)) ≡ true) → ⊥
    go (inl a) = is_not (c == 10 || c == 13) (ap (λ b. b || c == 13) a) g
    go (inr a) = is_not (c == 10 || c == 13) (second (c == 10) (c == 13) (and_parts _ _ a).0) g
      where
        second : (x y : Bool) → y ≡ true → (x || y) ≡ true
        second true y h = refl
        second false y h = h

-- as many breaks end before a place of line k as there are lines before it
line_at : (p s k n d : ℕ) (t : List ℕ) → s ≤ p → k ≤ length (break_ends p t)
    → ((j : ℕ) → slice_index_or (s ∷ break_ends p t) k d ≤ p + j → p + j < slice_index_or (s ∷ break_ends p t) k d + n → in_line (slice_index t j) ≡ true)
    → ended (slice_index_or (s ∷ break_ends p t) k d + n) (break_ends p t) ≡ k
unfolding break_ends
line_at p s k n d [] l m h = omega (arith, m)
line_at p s k n d (c ∷ t) l m h = go (ends_break c t) refl k m h (λ v q i a g. line_at (p + 1) v i n d t q a g)
  where
    rest : List ℕ
    rest = break_ends (p + 1) t

    later : (v i : ℕ) → ((j : ℕ) → slice_index_or (v ∷ rest) i d ≤ p + j → p + j < slice_index_or (v ∷ rest) i d + n → in_line (slice_index (c ∷ t) j) ≡ true)
        → (j : ℕ) → slice_index_or (v ∷ rest) i d ≤ p + 1 + j → p + 1 + j < slice_index_or (v ∷ rest) i d + n → in_line (slice_index t j) ≡ true
    later v i f j a b = f (suc j) (omega (arith, a)) (omega (arith, b))

    go : (b : Bool) → ends_break c t ≡ b → (k : ℕ) → k ≤ length (cond b ((p + 1) ∷ rest) rest)
        → ((j : ℕ) → slice_index_or (s ∷ cond b ((p + 1) ∷ rest) rest) k d ≤ p + j → p + j < slice_index_or (s ∷ cond b ((p + 1) ∷ rest) rest) k d + n → in_line (slice_index (c ∷ t) j) ≡ true)
        → ((v : ℕ) → v ≤ p + 1 → (i : ℕ) → i ≤ length rest → ((j : ℕ) → slice_index_or (v ∷ rest) i d ≤ p + 1 + j → p + 1 + j < slice_index_or (v ∷ rest) i d + n
        → in_line (slice_index t j) ≡ true) → ended (slice_index_or (v ∷ rest) i d + n) rest ≡ i)
        → ended (slice_index_or (s ∷ cond b ((p + 1) ∷ rest) rest) k d + n) (cond b ((p + 1) ∷ rest) rest) ≡ k
    go false e k m f ih = ih s (omega arith) k m (later s k f)
    go true e zero m f ih = near (cases_lt (s + n) (p + 1))
      where
        near : (s + n < p + 1) ⊎ (p + 1 ≤ s + n) → ended (s + n) ((p + 1) ∷ rest) ≡ 0
        near (inl q) = ended-cons (s + n) (p + 1) rest false (lt-leb _ _ q) ∙ omega (arith, none_ended (s + n) (p + 1) t (omega arith))
        near (inr q) = absurd (breaks c t e (f 0 (omega arith) (omega (arith, q))))
    go true e (suc k) m f ih =
        let short : k ≤ length rest = omega (arith, m) in
        let far : p + 1 ≤ slice_index_or ((p + 1) ∷ rest) k d = at_least (p + 1) (p + 1) k d t (omega arith) short in
        let before : ended (slice_index_or ((p + 1) ∷ rest) k d + n) rest ≡ k = ih (p + 1) (omega arith) k short (later (p + 1) k f) in
        ended-cons (slice_index_or ((p + 1) ∷ rest) k d + n) (p + 1) rest true (le-leb _ _ (omega (arith, far))) ∙ omega (arith, before)

pub line_of-place : (t : List ℕ) (k n : ℕ) → k ≤ length (break_ends 0 t) → n ≤ length (line_from (line_start t k) t) → line_of t (line_start t k + n) ≡ k
unfolding line_of line_start line_from
line_of-place t k n l m = line_at 0 0 k n (length t) t (omega arith) l goes
  where
    start : ℕ
    start = slice_index_or (0 ∷ break_ends 0 t) k (length t)

    goes : (j : ℕ) → start ≤ 0 + j → 0 + j < start + n → in_line (slice_index t j) ≡ true
    goes j a b =
        let inside : j - start < prefix_len in_line (drop start t) = omega (arith, a, b, m, length-prefix_len in_line (drop start t)) in
        let here : in_line (slice_index (drop start t) (j - start)) ≡ true = prefix_len_passes in_line (drop start t) (j - start) 0 inside in
        let place : start + (j - start) ≡ j = omega (arith, a) in
        subst (λ i. in_line (slice_index t i) ≡ true) place (subst (λ c. in_line c ≡ true) (get_or-drop start t (j - start) 0) here)

pub position-of_offset : (encoding : Encoding) (t : List ℕ) (p : Position) → IsPlace encoding t p → position encoding t (offset encoding t p) ≡ p
unfolding offset position
position-of_offset encoding t p h = ap (position encoding t) (ap (λ m. start + m) whole) ∙ (λ i. record { line = line i; character = (counted ∙ sym h.3) i })
  where
    start : ℕ
    start = line_start t p.line

    n : ℕ
    n = h.0

    above : (k : ℕ) → n < k → k ≤ length (line_from start t) → nat_le (units encoding (take k (line_from start t))) p.character ≡ false
    above k a b = lt-leb _ _ (let more : units encoding (take n (line_from start t)) < units encoding (take k (line_from start t)) =
        units-take-lt encoding (line_from start t) n k a b in omega (arith, more, h.3))

    whole : greatest (λ k. nat_le (units encoding (take k (line_from start t))) p.character) (length (line_from start t)) ≡ n
    whole = greatest-is (λ k. nat_le (units encoding (take k (line_from start t))) p.character) (length (line_from start t)) n h.2 (le-leb _ _ (omega (arith, h.3))) above

    line : line_of t (start + n) ≡ p.line
    line = line_of-place t p.line n h.1 h.2

    counted : units encoding (take (start + n - line_start t (line_of t (start + n))) (line_from (line_start t (line_of t (start + n))) t)) ≡ units encoding (take n (line_from start t))
    counted =
        let back : start + n - start ≡ n = omega arith in
        ap (λ l. units encoding (take (start + n - line_start t l) (line_from (line_start t l) t))) line ∙ ap (λ m. units encoding (take m (line_from start t))) back
