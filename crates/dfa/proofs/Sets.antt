-- Rising lists of numbers as sets.
use Rattle.dfa.proofs.Std.{◌≡◌, ℕ, zero, suc, ◌+◌, ◌<◌, ◌≤◌, ◌⊎◌, Bool, true, false, cond, List, [], ◌∷◌, ◌++◌, length, filter, get_or, refl, sym, subst, inl, inr, arith}
use Rattle.dfa.proofs.Common.{Among, Rises, IsAscending}

pub among_append : (xs ys : List ℕ) (x : ℕ) → Among (xs ++ ys) x → Among xs x ⊎ Among ys x
among_append [] ys x h = inr h
among_append (y ∷ xs) ys x (inl e) = inl (inl e)
among_append (y ∷ xs) ys x (inr h) = elim (among_append xs ys x h) [ inl a ↦ inl (inr a) | inr b ↦ inr b ]

pub among_left : (xs ys : List ℕ) (x : ℕ) → Among xs x → Among (xs ++ ys) x
among_left [] ys x h = elim h [ ]
among_left (y ∷ xs) ys x (inl e) = inl e
among_left (y ∷ xs) ys x (inr h) = inr (among_left xs ys x h)

pub among_right : (xs ys : List ℕ) (x : ℕ) → Among ys x → Among (xs ++ ys) x
among_right [] ys x h = h
among_right (y ∷ xs) ys x h = inr (among_right xs ys x h)

pub rises_least : (n : ℕ) (xs : List ℕ) (x : ℕ) → Rises n xs → Among xs x → n ≤ x
rises_least n [] x r h = elim h [ ]
rises_least n (y ∷ ys) x r (inl e) = omega (arith, r.0, e)
rises_least n (y ∷ ys) x r (inr h) = omega (arith, r.0, rises_least (y + 1) ys x r.1 h)

pub rises_lower : (m n : ℕ) (xs : List ℕ) → m ≤ n → Rises n xs → Rises m xs
rises_lower m n [] le r = tt
rises_lower m n (x ∷ xs) le r = (omega (arith, r.0), r.1)

pub rises_append : (n m : ℕ) (xs ys : List ℕ) → n ≤ m → Rises n xs → ((x : ℕ) → Among xs x → x < m) → Rises m ys → Rises n (xs ++ ys)
rises_append n m [] ys le r b s = rises_lower n m ys le s
rises_append n m (x ∷ xs) ys le r b s = (r.0, rises_append (x + 1) m xs ys (omega (arith, b x (inl refl))) r.1 (λ y h. b y (inr h)) s)

filter_cases : (f : ℕ → Bool) (x : ℕ) (xs : List ℕ) → ((f x ≡ true) × (filter f (x ∷ xs) ≡ x ∷ filter f xs)) ⊎ ((f x ≡ false) × (filter f (x ∷ xs) ≡ filter f xs))
filter_cases f x xs = elim (f x) as (λ b. ((b ≡ true) × (cond b (x ∷ filter f xs) (filter f xs) ≡ x ∷ filter f xs)) ⊎ ((b ≡ false) × (cond b (x ∷ filter f xs) (filter f xs) ≡ filter f xs)))
    [ true ↦ inl (refl, refl) | false ↦ inr (refl, refl) ]

pub among_filter : (f : ℕ → Bool) (xs : List ℕ) (x : ℕ) → Among (filter f xs) x → Among xs x × (f x ≡ true)
among_filter f [] x h = elim h [ ]
among_filter f (y ∷ ys) x h = elim (filter_cases f y ys) [
  | inl c ↦ elim (subst (λ (l : List ℕ). Among l x) c.1 h) [
    | inl e ↦ (inl e, subst (λ (z : ℕ). f z ≡ true) e c.0)
    | inr t ↦ let r = among_filter f ys x t in (inr r.0, r.1)
  ]
  | inr c ↦ let r = among_filter f ys x (subst (λ (l : List ℕ). Among l x) c.1 h) in (inr r.0, r.1)
]

pub filter_among : (f : ℕ → Bool) (xs : List ℕ) (x : ℕ) → Among xs x → f x ≡ true → Among (filter f xs) x
filter_among f [] x h t = elim h [ ]
filter_among f (y ∷ ys) x h t = elim (filter_cases f y ys) [
  | inl c ↦ subst (λ (l : List ℕ). Among l x) (sym c.1) (elim h [ inl e ↦ inl e | inr g ↦ inr (filter_among f ys x g t) ])
  | inr c ↦ subst (λ (l : List ℕ). Among l x) (sym c.1) (elim h [
    | inl e ↦ let no : f x ≡ false = subst (λ (z : ℕ). f z ≡ false) e c.0 in cc
    | inr g ↦ filter_among f ys x g t
  ])
]

pub filter_rises : (f : ℕ → Bool) (n : ℕ) (xs : List ℕ) → Rises n xs → Rises n (filter f xs)
filter_rises f n [] r = tt
filter_rises f n (x ∷ xs) r = elim (filter_cases f x xs) [
  | inl c ↦ subst (λ (l : List ℕ). Rises n l) (sym c.1) (r.0, filter_rises f (x + 1) xs r.1)
  | inr c ↦ subst (λ (l : List ℕ). Rises n l) (sym c.1) (rises_lower n (x + 1) (filter f xs) (omega (arith, r.0)) (filter_rises f (x + 1) xs r.1))
]

-- two rising lists with the same members are the same
pub same_set : (n : ℕ) (xs ys : List ℕ) → Rises n xs → Rises n ys → ((x : ℕ) → Among xs x → Among ys x) → ((x : ℕ) → Among ys x → Among xs x) → xs ≡ ys
same_set n [] [] r s f g = refl
same_set n [] (y ∷ ys) r s f g = elim (g y (inl refl)) [ ]
same_set n (x ∷ xs) [] r s f g = elim (f x (inl refl)) [ ]
same_set n (x ∷ xs) (y ∷ ys) r s f g =
    let e : x ≡ y = elim (f x (inl refl)) [
      | inl a ↦ sym a
      | inr a ↦ elim (g y (inl refl)) [ inl b ↦ b | inr b ↦ absurd (omega (arith, rises_least (y + 1) ys x s.1 a, rises_least (x + 1) xs y r.1 b)) ]
    ] in
    let t : Rises (x + 1) ys = subst (λ (z : ℕ). Rises (z + 1) ys) (sym e) s.1 in
    let rest = same_set (x + 1) xs ys r.1 t
    (λ z h. elim (f z (inr h)) [ inl a ↦ absurd (omega (arith, rises_least (x + 1) xs z r.1 h, a, e)) | inr a ↦ a ])
    (λ z h. elim (g z (inr h)) [ inl a ↦ absurd (omega (arith, rises_least (x + 1) ys z t h, a, e)) | inr a ↦ a ]) in
    cc

pub at_from_among : (xs : List ℕ) (x : ℕ) → Among xs x → (k : ℕ) × (k < length xs) × (get_or xs k 0 ≡ x)
at_from_among [] x h = elim h [ ]
at_from_among (y ∷ ys) x (inl e) = (0, omega arith, e)
at_from_among (y ∷ ys) x (inr h) = let t = at_from_among ys x h in (suc t.0, omega (arith, t.1), t.2)

pub among_from_at : (xs : List ℕ) (k : ℕ) → k < length xs → Among xs (get_or xs k 0)
among_from_at [] k lt = absurd (omega (arith, lt))
among_from_at (y ∷ ys) zero lt = inl refl
among_from_at (y ∷ ys) (suc k) lt = inr (among_from_at ys k (omega (arith, lt)))

pub rises_ascending : (n : ℕ) (xs : List ℕ) → Rises n xs → IsAscending xs
rises_ascending n [] r i j le lt = absurd (omega (arith, lt))
rises_ascending n (x ∷ xs) r zero zero le lt = omega arith
rises_ascending n (x ∷ xs) r zero (suc j) le lt =
    let k : j < length xs = omega (arith, lt) in
    let a = rises_least (x + 1) xs (get_or xs j 0) r.1 (among_from_at xs j k) in
    omega (arith, a)
rises_ascending n (x ∷ xs) r (suc i) zero le lt = absurd (omega (arith, le))
rises_ascending n (x ∷ xs) r (suc i) (suc j) le lt = rises_ascending (x + 1) xs r.1 i j (omega (arith, le)) (omega (arith, lt))
