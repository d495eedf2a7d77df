-- The sums of tokens are exact where they fit.
use Rattle.lexer.proofs.Std.{arith, length-take, cases_lt, ltb-true, ltb-false, take_all, take-take, count_by-le-length, sum_by-take-le, sum_by-cons, All-head, All-tail}
use Rattle.lexer.proofs.Std.{refl, sym, ap, subst, inl, inr, ◌∙◌, ◌≡◌, ℕ, zero, suc, ◌+◌, ◌<◌, ◌≤◌, ◌^◌, Bool, true, false, not, List, [], ◌∷◌, length, take, count_by, All, IsTrue, nat_lt, if◌then◌else◌}
use Rattle.lexer.proofs.Common.{total, saturated, saturated-exact, Sums, Token, most, no_tokens, joined, token_sum, is_significant, characters, Fits}

abbrev pub tot : List Token → Sums
tot xs = total no_tokens joined token_sum xs

one_more : (m n : ℕ) → m + 1 ≤ n → m ≤ n
one_more m n h = omega arith

at_most_one : (b : Bool) → ◌≤◌ (if b then 0 else 1) 1
at_most_one true = omega arith
at_most_one false = omega arith

turned : (b : Bool) → ◌≡◌ {A = ℕ} (if b then 0 else 1) (if not b then 1 else 0)
turned true = refl
turned false = refl

pub count-cons : (x : Token) (xs : List Token) → count_by is_significant (x ∷ xs) ≡ (if x.skipped then 0 else 1) + count_by is_significant xs
count-cons x xs = sum_by-cons (λ x. if is_significant x then 1 else 0) x xs ∙ ap (λ n. n + count_by is_significant xs) (sym (turned x.skipped))

pub total_significant : (xs : List Token) → length xs ≤ most → (tot xs).significant ≡ count_by is_significant xs
total_significant [] h = refl
total_significant (x ∷ xs) h =
    let few : count_by is_significant xs ≤ length xs = count_by-le-length is_significant xs in
    let rest : (tot xs).significant ≡ count_by is_significant xs = total_significant xs (one_more (length xs) most (omega arith)) in
    ap (saturated most (if x.skipped then 0 else 1)) rest ∙ saturated-exact most (if x.skipped then 0 else 1)
    (count_by is_significant xs) (omega (arith, at_most_one x.skipped)) ∙ sym (count-cons x xs)

pub characters-cons : (x : Token) (xs : List Token) → characters (x ∷ xs) ≡ x.length + characters xs
characters-cons x xs = sum_by-cons (λ x. x.length) x xs

pub total_characters : (xs : List Token) → characters xs ≤ most → (tot xs).characters ≡ characters xs
total_characters [] h = refl
total_characters (x ∷ xs) h =
    let sum : characters (x ∷ xs) ≡ x.length + characters xs = characters-cons x xs in
    let rest : (tot xs).characters ≡ characters xs = total_characters xs (omega arith) in
    ap (saturated most x.length) rest ∙ saturated-exact most x.length (characters xs) (omega arith) ∙ sym sum

-- there are no more tokens than characters
pub length-le-characters : (xs : List Token) → All (λ x. 1 ≤ x.length) xs → length xs ≤ characters xs
length-le-characters [] h = omega arith
length-le-characters (x ∷ xs) h =
    let first : 1 ≤ x.length = All-head (λ x. 1 ≤ x.length) x xs h in
    let rest : length xs ≤ characters xs = length-le-characters xs (All-tail (λ x. 1 ≤ x.length) x xs h) in
    omega (arith, characters-cons x xs)

pub few : (xs : List Token) → Fits xs → length xs ≤ 2 ^ 30
few xs f = let n : length xs ≤ characters xs = length-le-characters xs f.nonempty in omega (arith, f.short)

-- the same of the first n
pub take_significant : (n : ℕ) (xs : List Token) → Fits xs → (tot (take n xs)).significant ≡ count_by is_significant (take n xs)
take_significant n xs f =
    let short : length (take n xs) ≤ length xs = omega (arith, length-take n xs) in
    let all : length xs ≤ 2 ^ 30 = few xs f in
    total_significant (take n xs) (omega arith)

pub take_characters : (n : ℕ) (xs : List Token) → Fits xs → (tot (take n xs)).characters ≡ characters (take n xs)
take_characters n xs f =
    let part : characters (take n xs) ≤ characters xs = sum_by-take-le (λ x. x.length) xs n in
    total_characters (take n xs) (omega (arith, f.short))

counts_one : (xs : List Token) (p : ℕ) → count_by is_significant (take (suc p) xs) ≤ count_by is_significant (take p xs) + 1
counts_one [] zero = omega arith
counts_one [] (suc p) = omega arith
counts_one (x ∷ xs) zero = let e : count_by is_significant (x ∷ []) ≡ (if x.skipped then 0 else 1) + 0 = count-cons x [] in omega (arith, e, at_most_one x.skipped)
counts_one (x ∷ xs) (suc p) =
    let rest : count_by is_significant (take (suc p) xs) ≤ count_by is_significant (take p xs) + 1 = counts_one xs p in
    omega (arith, rest, count-cons x (take (suc p) xs), count-cons x (take p xs))

pub counts_one_more : (xs : List Token) (p : ℕ) → count_by is_significant (take (p + 1) xs) ≤ count_by is_significant (take p xs) + 1
counts_one_more xs p =
    let e : suc p ≡ p + 1 = omega arith in
    subst (λ n. count_by is_significant (take n xs) ≤ count_by is_significant (take p xs) + 1) e (counts_one xs p)

-- the significant tokens before the place found for k
module _ (xs : List Token) (k p : ℕ) (f : Fits xs) (l : k < count_by is_significant xs) (m : p ≤ length xs) (before : (i : ℕ) → i < p → nat_lt k (tot (take (i + 1) xs)).significant ≡ false)
    (at : p < length xs → IsTrue (nat_lt k (tot (take (p + 1) xs)).significant)) where
  not_past : (n : ℕ) → n ≡ p → count_by is_significant (take n xs) ≤ k
  not_past zero e = omega arith
  not_past (suc n) e =
      let same : n + 1 ≡ suc n = omega arith in
      let here : (tot (take (n + 1) xs)).significant ≤ k = ltb-false _ _ (before n (omega arith)) in
      subst (λ j. count_by is_significant (take j xs) ≤ k) same (subst (λ y. y ≤ k) (take_significant (n + 1) xs f) here)

  pub significant_within : p < length xs
  significant_within = elim (cases_lt p (length xs)) [
    | inl lt ↦ lt
    | inr ge ↦
        let all : take p xs ≡ xs = take_all p xs ge in
        let low : count_by is_significant xs ≤ k = subst (λ ys. count_by is_significant ys ≤ k) all (not_past p refl) in
        absurd (omega arith)
  ]

  reached_here : k < count_by is_significant (take (p + 1) xs)
  reached_here = subst (λ y. k < y) (take_significant (p + 1) xs f) (ltb-true _ _ (at significant_within))

  pub significant_before : count_by is_significant (take p xs) ≡ k
  significant_before = omega (arith, not_past p refl, reached_here, counts_one_more xs p)

  pub significant_at : count_by is_significant (take (p + 1) xs) ≡ k + 1
  significant_at = omega (arith, not_past p refl, reached_here, counts_one_more xs p)

-- the characters of a longer prefix are more
pub characters-mono : (xs : List Token) (a b : ℕ) → a ≤ b → characters (take a xs) ≤ characters (take b xs)
characters-mono xs a b l = subst (λ ys. characters ys ≤ characters (take b xs)) (take-take a b xs l) (sum_by-take-le (λ x. x.length) (take b xs) a)

step_more : (xs : List Token) (j : ℕ) → All (λ x. 1 ≤ x.length) xs → j < length xs → characters (take j xs) + 1 ≤ characters (take (suc j) xs)
step_more [] j h l = absurd (omega arith)
step_more (x ∷ xs) zero h l = let first : 1 ≤ x.length = All-head (λ x. 1 ≤ x.length) x xs h in omega (arith, characters-cons x [])
step_more (x ∷ xs) (suc j) h l =
    let rest : characters (take j xs) + 1 ≤ characters (take (suc j) xs) = step_more xs j (All-tail (λ x. 1 ≤ x.length) x xs h) (omega arith) in
    omega (arith, characters-cons x (take (suc j) xs), characters-cons x (take j xs))

pub characters-step : (xs : List Token) (j : ℕ) → All (λ x. 1 ≤ x.length) xs → j < length xs → characters (take j xs) + 1 ≤ characters (take (j + 1) xs)
characters-step xs j h l =
    let e : suc j ≡ j + 1 = omega arith in
    subst (λ n. characters (take j xs) + 1 ≤ characters (take n xs)) e (step_more xs j h l)

pub significant-take-le : (xs : List Token) (a : ℕ) → count_by is_significant (take a xs) ≤ count_by is_significant xs
significant-take-le xs a = sum_by-take-le (λ x. if is_significant x then 1 else 0) xs a

-- no place is found for a number past the last one
pub none_past : (xs : List Token) (k p : ℕ) → Fits xs → count_by is_significant xs ≤ k → p ≤ length xs → (p < length xs → IsTrue (nat_lt k (tot (take (p + 1) xs)).significant)) → length xs ≤ p
none_past xs k p f past m at = elim (cases_lt p (length xs)) [
  | inr ge ↦ ge
  | inl lt ↦
      let here : k < count_by is_significant (take (p + 1) xs) = subst (λ y. k < y) (take_significant (p + 1) xs f) (ltb-true _ _ (at lt)) in
      absurd (omega (arith, here, past, significant-take-le xs (p + 1)))
]
