-- A list read from its end.
use Rattle.parser.proofs.Std.{◌≡◌, ◌↔◌, ⊎_elim, IsSome, Option, Some, None, MatchOption, option_to_list, ℕ, ◌-◌, ◌<◌, ◌≤◌, suc, List, [], ◌∷◌, ◌++◌, length, take, drop, get_or, refl, sym, ap, ◌∙◌}
use Rattle.parser.proofs.Std.{arith, append_assoc, length-append, take-append-drop, length-drop, append-nil, drop-append_seam, cases_lt}
use Rattle.parser.proofs.Common.{backwards}

pub backwards-append : {A : Type 0} → (xs ys : List A) → backwards (xs ++ ys) ≡ backwards ys ++ backwards xs
backwards-append [] ys = sym (append-nil (backwards ys))
backwards-append (x ∷ xs) ys = ap (λ l. l ++ (x ∷ [])) (backwards-append xs ys) ∙ append_assoc (backwards ys) (backwards xs) (x ∷ [])

pub backwards-length : {A : Type 0} → (xs : List A) → length (backwards xs) ≡ length xs
backwards-length [] = refl
backwards-length (x ∷ xs) = omega (arith, backwards-length xs, length-append (backwards xs) (x ∷ []))

pub backwards-push : {A : Type 0} → (xs : List A) (x : A) → backwards (xs ++ (x ∷ [])) ≡ x ∷ backwards xs
backwards-push xs x = backwards-append xs (x ∷ [])

pub backwards-take : {A : Type 0} → (n : ℕ) (xs : List A) → n ≤ length xs → backwards (take n xs) ≡ drop (length (backwards xs) - n) (backwards xs)
backwards-take n xs h =
    let all : backwards xs ≡ backwards (drop n xs) ++ backwards (take n xs) = ap backwards (sym (take-append-drop n xs)) ∙ backwards-append (take n xs) (drop n xs) in
    let k : length (backwards (drop n xs)) ≡ length (backwards xs) - n = omega (arith, h, backwards-length xs, backwards-length (drop n xs), length-drop n xs) in
    sym (drop-append_seam (backwards (drop n xs)) (backwards (take n xs))) ∙ (λ i. drop (k i) (sym all i))

-- the last of a list
pub last-split : {A : Type 0} → (xs : List A) (x : A) → 0 < length xs → x ≡ get_or xs (length xs - 1) x → xs ≡ take (length xs - 1) xs ++ (x ∷ [])
last-split [] x l e = absurd (omega (arith, l))
last-split (y ∷ []) x l e = ap (λ z. z ∷ []) (sym e)
last-split (y ∷ z ∷ xs) x l e =
    let i : length (y ∷ z ∷ xs) - 1 ≡ suc (length (z ∷ xs) - 1) = omega arith in
    let e' : x ≡ get_or (z ∷ xs) (length (z ∷ xs) - 1) x = e ∙ ap (λ n. get_or (y ∷ z ∷ xs) n x) i in
    ap (λ l. y ∷ l) (last-split (z ∷ xs) x (omega arith) e') ∙ ap (λ n. take n (y ∷ z ∷ xs) ++ (x ∷ [])) (sym i)

pub backwards-last : {A : Type 0} → (xs : List A) (x : A) → 0 < length xs → x ≡ get_or xs (length xs - 1) x → backwards xs ≡ x ∷ backwards (take (length xs - 1) xs)
backwards-last xs x l e = ap backwards (last-split xs x l e) ∙ backwards-push (take (length xs - 1) xs) x

is_empty : {A : Type 0} → (xs : List A) → length xs ≡ 0 → xs ≡ []
is_empty [] e = refl
is_empty (x ∷ xs) e = absurd (omega (arith, e))

pub popped : {A : Type 0} → (xs ys seen : List A) (r : Option A) → backwards xs ≡ seen → xs ≡ ys ++ option_to_list r → IsSome r ↔ (0 < length xs)
    → MatchOption r ((seen ≡ []) × (backwards ys ≡ [])) (λ c. seen ≡ c ∷ backwards ys)
popped xs ys seen None v e h =
    let none : xs ≡ [] = is_empty xs (⊎_elim (λ lt. absurd (cc (h.1 lt))) (λ ge. omega (arith, ge)) (cases_lt 0 (length xs))) in
    let same : xs ≡ ys = e ∙ append-nil ys in
    (sym v ∙ ap backwards none, ap backwards (sym same ∙ none))
popped xs ys seen (Some c) v e h = sym v ∙ ap backwards e ∙ backwards-push ys c
