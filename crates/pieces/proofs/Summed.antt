-- The sum of a text that is a list of pieces, and of what lies before one of them.
use Rattle.pieces.proofs.Std.{take-append-drop, arith, refl, sym, ap, ◌∙◌, ◌≡◌, ℕ, ◌≤◌, List, [], ◌∷◌, ◌++◌, take, drop}
use Rattle.pieces.proofs.Common.{text_in, joined-append, total, Utf8, units, Empty, sums_of, joined, most}
use Rattle.pieces.proofs.Joins.{sums_of_append, units-append}

pub total-pieces : (pieces : List (List ℕ)) → units Utf8 (text_in pieces) ≤ most → total Empty joined sums_of pieces ≡ sums_of (text_in pieces)
total-pieces [] few = refl
total-pieces (p ∷ pieces) few =
    let rest : units Utf8 (text_in pieces) ≤ most = omega (arith, few, units-append Utf8 p (text_in pieces)) in
    ap (joined (sums_of p)) (total-pieces pieces rest) ∙ sym (sums_of_append p (text_in pieces) few)

-- the text before the piece at place i, and after it
abbrev pub text_before : List (List ℕ) → ℕ → List ℕ
text_before pieces i = text_in (take i pieces)

pub few_before : (pieces : List (List ℕ)) (i m : ℕ) → units Utf8 (text_in pieces) ≤ m → units Utf8 (text_before pieces i) ≤ m
few_before pieces i m few =
    let whole : text_in pieces ≡ text_before pieces i ++ text_in (drop i pieces) = ap text_in (sym (take-append-drop i pieces)) ∙ joined-append (λ p. p) (take i pieces) (drop i pieces) in
    omega (arith, few, ap (units Utf8) whole, units-append Utf8 (text_before pieces i) (text_in (drop i pieces)))
