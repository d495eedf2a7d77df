-- The marks of a set, and whether some of them lie in a part of the positions.
use Rattle.dfa.proofs.Std.{◌≡◌, ℕ, zero, suc, ◌+◌, ◌<◌, ◌≤◌, ◌⊎◌, Bool, true, false, List, [], ◌∷◌, length, filter, get_or, nat_lt, Result, Ok, Err, refl, sym, ap, ◌∙◌, subst, inl, inr, arith, cases_lt, false≢true, or_cases, or_left, or_right, nat_tests, MatchResult, is_ok, false_from_ne_true}
use Rattle.dfa.proofs.Common.{mark, marked, marks_of, unmarked, Among, AreBlank, AreMarksOf, Rises, IsAscending, any_mark, listed, kept}
use Rattle.dfa.proofs.Sets.{among_filter, among_from_at, at_from_among, filter_among, filter_rises, rises_least, rises_lower, same_set}

marked_here : (p : ℕ) (marks : List Bool) → mark (marked p marks) p ≡ true
marked_here zero [] = refl
marked_here zero (m ∷ ms) = refl
marked_here (suc p) [] = marked_here p []
marked_here (suc p) (m ∷ ms) = marked_here p ms

marked_more : (p q : ℕ) (marks : List Bool) → mark marks q ≡ true → mark (marked p marks) q ≡ true
marked_more p q [] h = cc
marked_more zero zero (m ∷ ms) h = refl
marked_more (suc p) (suc q) (m ∷ ms) h = marked_more p q ms h
marked_more a q (m ∷ ms) h = h

marked_cases : (p q : ℕ) (marks : List Bool) → mark (marked p marks) q ≡ true → (p ≡ q) ⊎ (mark marks q ≡ true)
marked_cases zero zero marks h = inl refl
marked_cases zero (suc q) [] h = inr h
marked_cases zero (suc q) (m ∷ ms) h = inr h
marked_cases (suc p) zero [] h = inr h
marked_cases (suc p) zero (m ∷ ms) h = inr h
marked_cases (suc p) (suc q) [] h = elim (marked_cases p q [] h) [ inl e ↦ inl (ap suc e) | inr x ↦ inr x ]
marked_cases (suc p) (suc q) (m ∷ ms) h = elim (marked_cases p q ms h) [ inl e ↦ inl (ap suc e) | inr x ↦ inr x ]

pub marks_every : (set : List ℕ) (p : ℕ) → Among set p → mark (marks_of set) p ≡ true
unfolding marks_of
marks_every [] p h = elim h [ ]
marks_every (x ∷ xs) p (inl e) = subst (λ (y : ℕ). mark (marked x (marks_of xs)) y ≡ true) e (marked_here x (marks_of xs))
marks_every (x ∷ xs) p (inr h) = marked_more x p (marks_of xs) (marks_every xs p h)

pub marks_only : (set : List ℕ) (p : ℕ) → mark (marks_of set) p ≡ true → Among set p
unfolding marks_of
marks_only [] p h = cc
marks_only (x ∷ xs) p h = elim (marked_cases x p (marks_of xs) h) [ inl e ↦ inl e | inr m ↦ inr (marks_only xs p m) ]

pub marks_are : (set : List ℕ) → AreMarksOf set (marks_of set)
marks_are set = record { only = marks_only set; every = marks_every set }

any_true : (marks : List Bool) (o n p : ℕ) → o ≤ p → p < o + n → mark marks p ≡ true → any_mark marks o n ≡ true
any_true marks o zero p le lt h = absurd (omega arith)
any_true marks o (suc n) p le lt h = elim (cases_lt o p) [
  | inl x ↦ or_right (mark marks o) (any_mark marks (o + 1) n) (any_true marks (o + 1) n p (omega (arith, x)) (omega (arith, lt)) h)
  | inr x ↦ let e : p ≡ o = omega (arith, x, le) in or_left (mark marks o) (any_mark marks (o + 1) n) (subst (λ (y : ℕ). mark marks y ≡ true) e h)
]

any_at : (marks : List Bool) (o n : ℕ) → any_mark marks o n ≡ true → (p : ℕ) × (o ≤ p) × (p < o + n) × (mark marks p ≡ true)
any_at marks o zero h = cc
any_at marks o (suc n) h = elim (or_cases (mark marks o) (any_mark marks (o + 1) n) h) [
  | inl x ↦ (o, omega arith, omega arith, x)
  | inr x ↦ let t = any_at marks (o + 1) n x in (t.0, omega (arith, t.1), omega (arith, t.2), t.3)
]

any_none : (marks : List Bool) (o n : ℕ) → ((p : ℕ) → o ≤ p → p < o + n → mark marks p ≡ true → ⊥) → any_mark marks o n ≡ false
any_none marks o n h = elim (any_mark marks o n) as (λ b. any_mark marks o n ≡ b → b ≡ false) [ true ↦ (λ e. let t = any_at marks o n e in absurd (h t.0 t.1 t.2 t.3)) | false ↦ (λ e. refl) ] refl

-- the first of the set that is not below o lies at i: the positions from o on meet the set where that one does
pub met_at : (set : List ℕ) (o n i : ℕ) → i < length set → o ≤ get_or set i 0 → get_or set i 0 < o + n → any_mark (marks_of set) o n ≡ true
met_at set o n i lt le less = any_true (marks_of set) o n (get_or set i 0) le less (marks_every set (get_or set i 0) (among_from_at set i lt))

pub not_met : (set : List ℕ) (o n i : ℕ) → ((k : ℕ) → k < i → get_or set k 0 < o) → ((k : ℕ) → i ≤ k → k < length set → o + n ≤ get_or set k 0) → any_mark (marks_of set) o n ≡ false
not_met set o n i below above =
    let none : (p : ℕ) → o ≤ p → p < o + n → mark (marks_of set) p ≡ true → ⊥ = λ p le lt h.
    let t = at_from_among set p (marks_only set p h) in
    elim (cases_lt t.0 i) [
      | inl x ↦ let a = below t.0 x in omega (arith, a, t.2, le)
      | inr x ↦ let a = above t.0 x t.1 in omega (arith, a, t.2, lt)
    ]
    in
    any_none (marks_of set) o n none

less : (m n : ℕ) → m < n → nat_lt m n ≡ true
less m n h = grind (arith, nat_tests)

not_less : (m n : ℕ) → n ≤ m → nat_lt m n ≡ false
not_less m n h = grind (arith, nat_tests)

-- what a search for o says of the n positions from o on
pub meets_found : (set : List ℕ) (o n i : ℕ) → i < length set → get_or set i 0 ≡ o → nat_lt 0 n ≡ any_mark (marks_of set) o n
meets_found set o zero i lt e = refl
meets_found set o (suc n) i lt e = less 0 (suc n) (omega arith) ∙ sym (met_at set o (suc n) i lt (omega (arith, e)) (omega (arith, e)))

pub meets_next : (set : List ℕ) (o n i : ℕ) → IsAscending set → i < length set → ((k : ℕ) → k < i → get_or set k 0 < o)
    → ((k : ℕ) → i ≤ k → k < length set → o < get_or set k 0) → nat_lt (get_or set i 0) (o + n) ≡ any_mark (marks_of set) o n
meets_next set o n i up lt below above = elim (cases_lt (get_or set i 0) (o + n)) [
  | inl x ↦ less (get_or set i 0) (o + n) x ∙ sym (met_at set o n i lt (let a = above i (omega arith) lt in omega (arith, a)) x)
  | inr x ↦ not_less (get_or set i 0) (o + n) x ∙ sym (not_met set o n i below (λ k le l. let a = up i k le l in omega (arith, a, x)))
]

pub meets_none : (set : List ℕ) (o n i : ℕ) → length set ≤ i → ((k : ℕ) → k < i → get_or set k 0 < o) → nat_lt i (length set) ≡ any_mark (marks_of set) o n
meets_none set o n i all below = not_less i (length set) all ∙ sym (not_met set o n i below (λ k le l. absurd (omega (arith, le, l, all))))

abbrev pub IsFound : List ℕ → ℕ → Result ℕ ℕ → Type 0
IsFound set p r = MatchResult r (λ i. (i < length set) × (get_or set i 0 ≡ p))
    (λ i. (i ≤ length set) × ((k : ℕ) → k < i → get_or set k 0 < p) × ((k : ℕ) → i ≤ k → k < length set → p < get_or set k 0))

-- a search finds what is marked
pub found_marked : (set : List ℕ) (p : ℕ) (r : Result ℕ ℕ) → IsFound set p r → is_ok r ≡ mark (marks_of set) p
found_marked set p (Ok i) f = sym (marks_every set p (subst (λ (x : ℕ). Among set x) f.1 (among_from_at set i f.0)))
found_marked set p (Err i) f =
    let none : mark (marks_of set) p ≡ true → ⊥ = λ h.
    let t = at_from_among set p (marks_only set p h) in
    elim (cases_lt t.0 i) [
      | inl x ↦ let a = f.1 t.0 x in omega (arith, a, t.2)
      | inr x ↦ let a = f.2 t.0 x t.1 in omega (arith, a, t.2)
    ]
    in
    sym (false_from_ne_true (mark (marks_of set) p) none)

same_bits : (x y : Bool) → (x ≡ true → y ≡ true) → (y ≡ true → x ≡ true) → x ≡ y
same_bits true y f g = sym (f refl)
same_bits false y f g = sym (false_from_ne_true y (λ h. let e = g h in cc))

-- positions are listed where they are marked
listed_rise : (o : ℕ) (marks : List Bool) → Rises o (listed o marks)
listed_rise o [] = tt
listed_rise o (true ∷ ms) = (omega arith, listed_rise (o + 1) ms)
listed_rise o (false ∷ ms) = rises_lower o (o + 1) (listed (o + 1) ms) (omega arith) (listed_rise (o + 1) ms)

listed_only : (o p : ℕ) (marks : List Bool) → Among (listed o marks) (o + p) → mark marks p ≡ true
listed_only o p [] h = elim h [ ]
listed_only o zero (true ∷ ms) h = refl
listed_only o (suc p) (true ∷ ms) (inl e) = absurd (omega (arith, e))
listed_only o (suc p) (true ∷ ms) (inr h) = let e : o + suc p ≡ o + 1 + p = omega arith in listed_only (o + 1) p ms (subst (λ (x : ℕ). Among (listed (o + 1) ms) x) e h)
listed_only o zero (false ∷ ms) h = let a = rises_least (o + 1) (listed (o + 1) ms) (o + zero) (listed_rise (o + 1) ms) h in absurd (omega (arith, a))
listed_only o (suc p) (false ∷ ms) h = let e : o + suc p ≡ o + 1 + p = omega arith in listed_only (o + 1) p ms (subst (λ (x : ℕ). Among (listed (o + 1) ms) x) e h)

listed_every : (o p : ℕ) (marks : List Bool) → mark marks p ≡ true → Among (listed o marks) (o + p)
listed_every o zero (true ∷ ms) h = inl (omega arith)
listed_every o (suc p) (true ∷ ms) h = let e : o + 1 + p ≡ o + suc p = omega arith in inr (subst (λ (x : ℕ). Among (listed (o + 1) ms) x) e (listed_every (o + 1) p ms h))
listed_every o (suc p) (false ∷ ms) h = let e : o + 1 + p ≡ o + suc p = omega arith in subst (λ (x : ℕ). Among (listed (o + 1) ms) x) e (listed_every (o + 1) p ms h)
listed_every o a b h = cc

pub all_listed_rise : (all : List ℕ) (marks : List Bool) → all ≡ listed 0 marks → Rises 0 all
all_listed_rise all marks e = subst (Rises 0) (sym e) (listed_rise 0 marks)

-- the listed positions keep what the marks keep
pub kept_listed : (all : List ℕ) (marks : List Bool) → all ≡ listed 0 marks → kept (marks_of all) ≡ kept marks
kept_listed all marks e =
    let at : (p : ℕ) → 0 + p ≡ p = λ p. omega arith in
    let same : (p : ℕ) → mark (marks_of all) p ≡ mark marks p = λ p. same_bits (mark (marks_of all) p) (mark marks p)
    (λ h. listed_only 0 p marks (subst (λ (l : List ℕ). Among l (0 + p)) e (subst (λ (x : ℕ). Among all x) (sym (at p)) (marks_only all p h))))
    (λ h. marks_every all p (subst (λ (x : ℕ). Among all x) (at p) (subst (λ (l : List ℕ). Among l (0 + p)) (sym e) (listed_every 0 p marks h))))
    in
    (λ i xs. filter (λ p. same p i) xs)

-- what two rising lists have in common
pub kept_both : (xs ys : List ℕ) → Rises 0 xs → Rises 0 ys → kept (marks_of ys) xs ≡ kept (marks_of xs) ys
kept_both xs ys r s =
    let f = λ (p : ℕ). mark (marks_of ys) p in
    let g = λ (p : ℕ). mark (marks_of xs) p in
    same_set 0 (filter f xs) (filter g ys) (filter_rises f 0 xs r) (filter_rises g 0 ys s)
    (λ x h. let t = among_filter f xs x h in filter_among g ys x (marks_only ys x t.1) (marks_every xs x t.0))
    (λ x h. let t = among_filter g ys x h in filter_among f xs x (marks_only xs x t.1) (marks_every ys x t.0))

-- one set has the same marks, however many blank ones follow
pub same_mark : (set : List ℕ) (marks : List Bool) → AreMarksOf set marks → (p : ℕ) → mark marks p ≡ mark (marks_of set) p
same_mark set marks a p = same_bits (mark marks p) (mark (marks_of set) p) (λ h. marks_every set p (a.only p h)) (λ h. a.every p (marks_only set p h))

pub kept_marks : (set xs : List ℕ) (marks : List Bool) → AreMarksOf set marks → kept marks xs ≡ kept (marks_of set) xs
kept_marks set xs marks a = (λ i. filter (λ p. same_mark set marks a p i) xs)

pub no_mark : (n p : ℕ) → mark (unmarked n) p ≡ false
no_mark zero p = refl
no_mark (suc n) zero = refl
no_mark (suc n) (suc p) = no_mark n p

pub length-unmarked : (n : ℕ) → length (unmarked n) ≡ n
length-unmarked zero = refl
length-unmarked (suc n) = ap suc (length-unmarked n)

-- the value is written at the positions of the set, and nowhere else
pub record Written (set : List ℕ) (value : Bool) (old new : List Bool) (n : ℕ) : Type 0 where
  pub many : length new ≡ length old
  pub there : (k : ℕ) → k < n → mark new (get_or set k 0) ≡ value
  pub other : (p : ℕ) → ((k : ℕ) → k < n → get_or set k 0 ≡ p → ⊥) → mark new p ≡ mark old p

written_there : (set : List ℕ) (value : Bool) (old new : List Bool) (p : ℕ) → Written set value old new (length set) → Among set p → mark new p ≡ value
written_there set value old new p w h = let t = at_from_among set p h in subst (λ (x : ℕ). mark new x ≡ value) t.2 (w.there t.0 t.1)

written_other : (set : List ℕ) (value : Bool) (old new : List Bool) (p : ℕ) → Written set value old new (length set) → (Among set p → ⊥) → mark new p ≡ mark old p
written_other set value old new p w h = w.other p (λ k lt e. h (subst (λ (x : ℕ). Among set x) e (among_from_at set k lt)))

among_cases : (set : List ℕ) (p : ℕ) → Among set p ⊎ (Among set p → ⊥)
among_cases set p = elim (mark (marks_of set) p) as (λ b. mark (marks_of set) p ≡ b → Among set p ⊎ (Among set p → ⊥))
    [ true ↦ (λ e. inl (marks_only set p e)) | false ↦ (λ e. inr (λ h. false≢true (sym e ∙ marks_every set p h))) ] refl

pub written_marks : (set : List ℕ) (value : Bool) (old new : List Bool) → Written set value old new (length set) → value ≡ true → AreBlank old → AreMarksOf set new
written_marks set value old new w v b = record {
  only = λ p h. elim (among_cases set p) [ inl x ↦ x | inr x ↦ absurd (false≢true (sym (b p) ∙ sym (written_other set value old new p w x) ∙ h)) ];
  every = λ p h. written_there set value old new p w h ∙ v;
}

pub written_blank : (set : List ℕ) (value : Bool) (old new : List Bool) → Written set value old new (length set) → value ≡ false → AreMarksOf set old → AreBlank new
written_blank set value old new w v a p = elim (among_cases set p) [
  | inl x ↦ written_there set value old new p w x ∙ v
  | inr x ↦ written_other set value old new p w x ∙ false_from_ne_true (mark old p) (λ h. x (a.only p h))
]

-- what is listed lies below the end of the marks
listed_below : (o x : ℕ) (marks : List Bool) → Among (listed o marks) x → x < o + length marks
listed_below o x [] h = elim h [ ]
listed_below o x (true ∷ ms) (inl e) = omega (arith, e)
listed_below o x (true ∷ ms) (inr h) = omega (arith, listed_below (o + 1) x ms h)
listed_below o x (false ∷ ms) h = omega (arith, listed_below (o + 1) x ms h)

pub all_listed_below : (all : List ℕ) (marks : List Bool) (n : ℕ) → all ≡ listed 0 marks → length marks ≡ n → (k : ℕ) → k < length all → get_or all k 0 < n
all_listed_below all marks n e many k lt = omega (arith, many, listed_below 0 (get_or all k 0) marks (subst (λ (l : List ℕ). Among l (get_or all k 0)) e (among_from_at all k lt)))
