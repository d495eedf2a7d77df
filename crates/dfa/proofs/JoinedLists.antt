-- Lists that are made part by part.
use Rattle.dfa.proofs.Std.{◌≡◌, ℕ, zero, suc, ◌+◌, ◌<◌, false, List, [], ◌∷◌, ◌++◌, length, drop, sym, ap, ◌∙◌, subst, arith, zero-add, get_or, append_assoc}
use Rattle.dfa.proofs.Common.{Expression, IsWellMade, unmarked, AllMade}

pub unmarked-add : (m n : ℕ) → unmarked m ++ unmarked n ≡ unmarked (m + n)
unmarked-add zero n = ap unmarked (sym (zero-add n))
unmarked-add (suc m) n = let e : suc (m + n) ≡ suc m + n = omega arith in ap (λ l. false ∷ l) (unmarked-add m n) ∙ ap unmarked e

pub unmarked-more : (n : ℕ) → unmarked n ++ false ∷ [] ≡ unmarked (n + 1)
unmarked-more n = unmarked-add n 1

-- a step of a loop that adds to a list what it makes of each element
pub one_more : {A : Type 0} (new out part rest later whole : List A) → new ≡ out ++ part → rest ≡ part ++ later → out ++ rest ≡ whole → new ++ later ≡ whole
one_more new out part rest later whole e f i = ap (λ y. y ++ later) e ∙ append_assoc out part later ∙ ap (λ y. out ++ y) (sym f) ∙ i

pub all_made : (xs : List Expression) (i : ℕ) (x : Expression) → i < length xs → get_or xs i x ≡ x → IsWellMade x → AllMade (drop (i + 1) xs) → AllMade (drop i xs)
all_made [] i x lt e m h = absurd (omega (arith, lt))
all_made (y ∷ xs) zero x lt e m h = (subst IsWellMade (sym e) m, h)
all_made (y ∷ xs) (suc i) x lt e m h =
    let f : suc i + 1 ≡ suc (i + 1) = omega arith in
    all_made xs i x (omega (arith, lt)) e m (subst (λ (n : ℕ). AllMade (drop n (y ∷ xs))) f h)
