-- Past the end of a text: an offset there has the position of the end, and no position has an offset there.
use Rattle.pieces.proofs.Std.{zero, suc, Bool, true, false, slice_index_or, prefix_len, le-leb, take_all, ◌≡◌, ℕ, ◌+◌, ◌-◌, ◌≤◌, List, [], ◌∷◌, length, take, drop, arith, refl, sym, ap, ◌∙◌, cond, length-take}
use Rattle.pieces.proofs.Common.{Position, Encoding, ends_break, break_ends, line_of, line_start, line_from, units, offset, position, in_line, ended, ended-cons, IsOffset-offset}
use Rattle.std.proofs.Common.{length-drop}

-- each break of a text ends at or before an offset past its end
all_ended : (o p : ℕ) (t : List ℕ) → p + length t ≤ o → ended o (break_ends p t) ≡ length (break_ends p t)
unfolding break_ends
all_ended o p [] l = refl
all_ended o p (c ∷ t) l = go (ends_break c t) (all_ended o (p + 1) t (omega (arith, l)))
  where
    go : (b : Bool) → ended o (break_ends (p + 1) t) ≡ length (break_ends (p + 1) t) → ended o (cond b ((p + 1) ∷ break_ends (p + 1) t) (break_ends (p + 1) t))
        ≡ length (cond b ((p + 1) ∷ break_ends (p + 1) t) (break_ends (p + 1) t))
    go false e = e
    go true e = ended-cons o (p + 1) (break_ends (p + 1) t) true (le-leb _ _ (omega (arith, l))) ∙ omega (arith, e)

line-short : (t : List ℕ) (start : ℕ) → length (line_from start t) ≤ length t - start
unfolding line_from
line-short t start = omega (arith, length-take (prefix_len in_line (drop start t)) (drop start t), length-drop start t)

pub position-past : (encoding : Encoding) (t : List ℕ) (o : ℕ) → length t ≤ o → position encoding t (length t) ≡ position encoding t o
unfolding position line_of
position-past encoding t o l =
    let many : line_of t o ≡ line_of t (length t) = all_ended o 0 t (omega (arith, l)) ∙ sym (all_ended (length t) 0 t (omega arith)) in
    let start : ℕ = line_start t (line_of t (length t)) in
    let short = line-short t start in
    let whole : take (length t - start) (line_from start t) ≡ line_from start t = take_all (length t - start) (line_from start t) short in
    let all : take (o - start) (line_from start t) ≡ line_from start t = take_all (o - start) (line_from start t) (omega (arith, short, l)) in
    let counted : units encoding (take (length t - start) (line_from start t)) ≡ units encoding (take (o - line_start t (line_of t o)) (line_from (line_start t (line_of t o)) t)) =
    ap (units encoding) (whole ∙ sym all) ∙ ap (λ n. units encoding (take (o - line_start t n) (line_from (line_start t n) t))) (sym many) in
    λ i. record { line = sym many i; character = counted i }

start-within : (k p d : ℕ) (t : List ℕ) → p + length t ≤ d → slice_index_or (break_ends p t) k d ≤ d
unfolding break_ends
start-within k p d [] l = omega arith
start-within k p d (c ∷ t) l = go (ends_break c t) k (λ j. start-within j (p + 1) d t (omega (arith, l)))
  where
    go : (b : Bool) (j : ℕ) → ((n : ℕ) → slice_index_or (break_ends (p + 1) t) n d ≤ d) → slice_index_or (cond b ((p + 1) ∷ break_ends (p + 1) t) (break_ends (p + 1) t)) j d ≤ d
    go false j h = h j
    go true zero h = omega (arith, l)
    go true (suc j) h = h j

line_start-within : (t : List ℕ) (k : ℕ) → line_start t k ≤ length t
unfolding line_start
line_start-within t zero = omega arith
line_start-within t (suc k) = start-within k 0 (length t) t (omega arith)

pub offset-within : (encoding : Encoding) (t : List ℕ) (p : Position) → offset encoding t p ≤ length t
offset-within encoding t p =
    let is = IsOffset-offset encoding t p in
    omega (arith, is.to, line-short t (line_start t p.line), line_start-within t p.line)
