-- The position of the end of a prefix of a text: what lies after its last break, given what follows it.
use Rattle.pieces.proofs.Std.{zero, suc, Bool, true, false, take_while, slice_index_or, le-leb, take_while-cons, ◌≡◌, ℕ, ◌+◌, ◌-◌, ◌≤◌, List, [], ◌∷◌, ◌++◌, length, take, drop, arith, refl, sym, ap, subst, ◌∙◌, cond, length-drop}
use Rattle.pieces.proofs.Common.{Encoding, ends_break, break_ends, line_of, line_start, line_from, units, position, ended, ended-cons, none_ended, line_start-le, in_line}

-- how many breaks end in t, where r follows
abbrev pub ended_in : List ℕ → List ℕ → ℕ
ended_in [] r = 0
ended_in (c ∷ t) r = cond (ends_break c (t ++ r)) 1 0 + ended_in t r

abbrev pub whole_if_none : ℕ → List ℕ → List ℕ → List ℕ
whole_if_none zero whole rest = whole
whole_if_none (suc n) whole rest = rest

-- what stands in t after the last of them
abbrev pub after_in : List ℕ → List ℕ → List ℕ
after_in [] r = []
after_in (c ∷ t) r = whole_if_none (ended_in (c ∷ t) r) (c ∷ t) (after_in t r)

pub ended-prefix : (p : ℕ) (t r : List ℕ) → ended (p + length t) (break_ends p (t ++ r)) ≡ ended_in t r
unfolding break_ends
ended-prefix p [] r = none_ended (p + 0) p r (omega arith)
ended-prefix p (c ∷ t) r = go (ends_break c (t ++ r)) (subst (λ o. ended o (break_ends (p + 1) (t ++ r)) ≡ ended_in t r) same (ended-prefix (p + 1) t r))
  where
    same : p + 1 + length t ≡ p + suc (length t)
    same = omega arith

    go : (b : Bool) → ended (p + suc (length t)) (break_ends (p + 1) (t ++ r)) ≡ ended_in t r → ended (p + suc (length t))
        (cond b ((p + 1) ∷ break_ends (p + 1) (t ++ r)) (break_ends (p + 1) (t ++ r))) ≡ cond b 1 0 + ended_in t r
    go false e = omega (arith, e)
    go true e = ended-cons (p + suc (length t)) (p + 1) (break_ends (p + 1) (t ++ r)) true (le-leb _ _ (omega arith)) ∙ omega (arith, e)

-- where no break ends in t, all of it is after the last one
pub units_after-none : (t r : List ℕ) → ended_in t r ≡ 0 → after_in t r ≡ t
units_after-none [] r e = refl
units_after-none (c ∷ t) r e = ap (λ n. whole_if_none n (c ∷ t) (after_in t r)) e

pub units_after-some : (c : ℕ) (t r : List ℕ) → 1 ≤ ended_in (c ∷ t) r → after_in (c ∷ t) r ≡ after_in t r
units_after-some c t r l = go (ended_in (c ∷ t) r) l
  where
    go : (n : ℕ) → 1 ≤ n → whole_if_none n (c ∷ t) (after_in t r) ≡ after_in t r
    go zero l = absurd (omega (arith, l))
    go (suc n) l = refl

-- where the last line of t begins, and what stands in t from there on
pub record Begins (p start : ℕ) (t tail : List ℕ) : Type 0 where
  pub from : p ≤ start
  pub rest : drop (start - p) t ≡ tail

begins : (s p d : ℕ) (t r : List ℕ) → 1 ≤ ended_in t r → Begins p (slice_index_or (s ∷ break_ends p (t ++ r)) (ended_in t r) d) t (after_in t r)
unfolding break_ends
begins s p d [] r l = absurd (omega (arith, l))
begins s p d (c ∷ t) r l = subst (Begins p (slice_index_or (s ∷ break_ends p (c ∷ t ++ r)) (ended_in (c ∷ t) r) d) (c ∷ t))
    (sym (units_after-some c t r l)) (go (ends_break c (t ++ r)) l (λ v k. begins v (p + 1) d t r k))
  where
    rest : List ℕ
    rest = break_ends (p + 1) (t ++ r)

    later : (start : ℕ) → Begins (p + 1) start t (after_in t r) → Begins p start (c ∷ t) (after_in t r)
    later start h =
        let up : p + 1 ≤ start = h.from in
        let same : start - p ≡ suc (start - (p + 1)) = omega (arith, up) in
        record { from = omega (arith, up); rest = ap (λ n. drop n (c ∷ t)) same ∙ h.rest }

    first : (n : ℕ) → ended_in t r ≡ n → (1 ≤ ended_in t r → Begins (p + 1) (slice_index_or ((p + 1) ∷ rest) (ended_in t r) d) t (after_in t r))
        → Begins p (slice_index_or ((p + 1) ∷ rest) n d) (c ∷ t) (after_in t r)
    first zero e ih =
        let one : p + 1 - p ≡ 1 = omega arith in
        record { from = omega arith; rest = ap (λ n. drop n (c ∷ t)) one ∙ sym (units_after-none t r e) }
    first (suc n) e ih = subst (λ n. Begins p (slice_index_or ((p + 1) ∷ rest) n d) (c ∷ t) (after_in t r)) e (later (slice_index_or ((p + 1) ∷ rest) (ended_in t r) d) (ih (omega (arith, e))))

    go : (b : Bool) → 1 ≤ cond b 1 0 + ended_in t r → ((v : ℕ) → 1 ≤ ended_in t r → Begins (p + 1) (slice_index_or (v ∷ rest) (ended_in t r) d) t (after_in t r))
        → Begins p (slice_index_or (s ∷ cond b ((p + 1) ∷ rest) rest) (cond b 1 0 + ended_in t r) d) (c ∷ t) (after_in t r)
    go false l ih =
        let same : 0 + ended_in t r ≡ ended_in t r = omega arith in
        subst (λ n. Begins p (slice_index_or (s ∷ rest) n d) (c ∷ t) (after_in t r)) (sym same) (later (slice_index_or (s ∷ rest) (ended_in t r) d) (ih s (omega (arith, l))))
    go true l ih =
        let same : 1 + ended_in t r ≡ suc (ended_in t r) = omega arith in
        subst (λ n. Begins p (slice_index_or (s ∷ (p + 1) ∷ rest) n d) (c ∷ t) (after_in t r)) (sym same) (first (ended_in t r) refl (ih (p + 1)))

-- a line is taken up to the end of a prefix as it is taken of the prefix alone
prefix_line : (a b : List ℕ) → take (length a) (take_while in_line (a ++ b)) ≡ take_while in_line a
prefix_line [] b = refl
prefix_line (c ∷ a) b = ap (take (suc (length a))) (take_while-cons in_line c (a ++ b)) ∙ go (in_line c) (prefix_line a b) ∙ sym (take_while-cons in_line c a)
  where
    go : (q : Bool) → take (length a) (take_while in_line (a ++ b)) ≡ take_while in_line a → take (suc (length a)) (cond q (c ∷ take_while in_line (a ++ b)) []) ≡ cond q (c ∷ take_while in_line a) []
    go true e = ap (λ l. c ∷ l) e
    go false e = refl

pub drop_prefix : (n : ℕ) (a b : List ℕ) → n ≤ length a → drop n (a ++ b) ≡ drop n a ++ b
drop_prefix zero a b l = refl
drop_prefix (suc n) [] b l = absurd (omega (arith, l))
drop_prefix (suc n) (c ∷ a) b l = drop_prefix n a b (omega (arith, l))

pub length_drop : (n : ℕ) (a : List ℕ) → n ≤ length a → length (drop n a) ≡ length a - n
length_drop n a l = length-drop n a

pub line-prefix : (t r : List ℕ) → line_of (t ++ r) (length t) ≡ ended_in t r
unfolding line_of
line-prefix t r =
    let same : length t ≡ 0 + length t = omega arith in
    ap (λ o. ended o (break_ends 0 (t ++ r))) same ∙ ended-prefix 0 t r

pub start_in : (t r : List ℕ) → Begins 0 (line_start (t ++ r) (line_of (t ++ r) (length t))) t (after_in t r)
unfolding line_start
start_in t r = subst (λ n. Begins 0 (slice_index_or (0 ∷ break_ends 0 (t ++ r)) n (length (t ++ r))) t (after_in t r)) (sym (line-prefix t r)) (go (ended_in t r) refl)
  where
    go : (n : ℕ) → ended_in t r ≡ n → Begins 0 (slice_index_or (0 ∷ break_ends 0 (t ++ r)) (ended_in t r) (length (t ++ r))) t (after_in t r)
    go zero e = subst (λ n. Begins 0 (slice_index_or (0 ∷ break_ends 0 (t ++ r)) n (length (t ++ r))) t (after_in t r)) (sym e) (record { from = omega arith; rest = sym (units_after-none t r e) })
    go (suc n) e = begins 0 0 (length (t ++ r)) t r (omega (arith, e))

-- The position of the end of a prefix: as many breaks as end in it, and the units of what stands after them
pub position-prefix : (encoding : Encoding) (t r : List ℕ) → position encoding (t ++ r) (length t) ≡ record { line = ended_in t r; character = units encoding (take_while in_line (after_in t r)) }
unfolding position line_from
position-prefix encoding t r = λ i. record { line = line-prefix t r i; character = ap (units encoding) counted i }
  where
    start : ℕ
    start = line_start (t ++ r) (line_of (t ++ r) (length t))

    within : start ≤ length t
    within = line_start-le (t ++ r) (length t)

    whole : start ≡ start - 0
    whole = omega arith

    counted : take (length t - start) (take_while in_line (drop start (t ++ r))) ≡ take_while in_line (after_in t r)
    counted =
        ap (λ l. take (length t - start) (take_while in_line l)) (drop_prefix start t r within)
        ∙ ap (λ n. take n (take_while in_line (drop start t ++ r))) (sym (length_drop start t within))
        ∙ prefix_line (drop start t) r
        ∙ ap (λ n. take_while in_line (drop n t)) whole
        ∙ ap (take_while in_line) (start_in t r).rest
