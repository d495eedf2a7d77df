-- The position of an offset past the end of a text is that of the end.
use Rattle.definitions.proofs.Std.{◌≡◌, ℕ, ◌+◌, ◌-◌, ◌<◌, ◌≤◌, ◌⊎◌, min, Bool, true, false, not, ◌||◌, ◌==◌, List, [], ◌∷◌, length, take, prefix_len, cases_lt, le-leb, length-take, take_all, arith, refl, sym, ap, inl, inr, ◌∙◌, cond, drop, length-drop}
use Rattle.definitions.proofs.Common.{Encoding, ends_break, break_ends, line_of, line_start, line_from, units, position}
use Rattle.definitions.proofs.OffsetOfPosition.{ended, ended-cons}

-- each break of a text ends in it
ended-past : (o p : ℕ) (t : List ℕ) → p + length t ≤ o → ended o (break_ends p t) ≡ length (break_ends p t)
unfolding break_ends
ended-past o p [] l = refl
ended-past o p (c ∷ t) l = go (ends_break c t) (ended-past o (p + 1) t (omega arith))
  where
    rest : List ℕ
    rest = break_ends (p + 1) t

    go : (b : Bool) → ended o rest ≡ length rest → ended o (cond b ((p + 1) ∷ rest) rest) ≡ length (cond b ((p + 1) ∷ rest) rest)
    go false e = e
    go true e = ended-cons o (p + 1) rest true (le-leb _ _ (omega arith)) ∙ omega (arith, e)

line_of-past : (t : List ℕ) (o : ℕ) → length t ≤ o → line_of t o ≡ line_of t (length t)
unfolding line_of
line_of-past t o l = ended-past o 0 t (omega arith) ∙ sym (ended-past (length t) 0 t (omega arith))

-- a line ends in the text
pub length-line_from : (s : ℕ) (t : List ℕ) → length (line_from s t) ≤ length t - s
unfolding line_from
length-line_from s t =
    let kept_before : ℕ = prefix_len (λ c. not (c == 10 || c == 13)) (drop s t) in
    omega (arith, length-take kept_before (drop s t), length-drop s t)

take-past : (t : List ℕ) (s o : ℕ) → length t ≤ o → take (o - s) (line_from s t) ≡ take (length t - s) (line_from s t)
take-past t s o l = take_all (o - s) (line_from s t) (omega (arith, length-line_from s t)) ∙ sym (take_all (length t - s) (line_from s t) (length-line_from s t))

position-past : (encoding : Encoding) (t : List ℕ) (o : ℕ) → length t ≤ o → position encoding t o ≡ position encoding t (length t)
unfolding position
position-past encoding t o l =
    let end : ℕ = length t in
    let line : line_of t o ≡ line_of t end = line_of-past t o l in
    let count : units encoding (take (o - line_start t (line_of t o)) (line_from (line_start t (line_of t o)) t)) ≡ units encoding
    (take (end - line_start t (line_of t end)) (line_from (line_start t (line_of t end)) t)) =
    ap (units encoding) (take-past t (line_start t (line_of t o)) o l) ∙ ap (λ k. units encoding (take (end - line_start t k) (line_from (line_start t k) t))) line in
    λ i. record { line = line i; character = count i }

pub position-min : (encoding : Encoding) (t : List ℕ) (o : ℕ) → position encoding t (min o (length t)) ≡ position encoding t o
position-min encoding t o = go (cases_lt o (length t))
  where
    go : (o < length t) ⊎ (length t ≤ o) → position encoding t (min o (length t)) ≡ position encoding t o
    go (inl l) =
        let same : min o (length t) ≡ o = omega arith in
        ap (position encoding t) same
    go (inr l) =
        let same : min o (length t) ≡ length t = omega arith in
        ap (position encoding t) same ∙ sym (position-past encoding t o l)
