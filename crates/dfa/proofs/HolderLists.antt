-- The positions that hold a character, as a rising list.
use Rattle.dfa.proofs.Std.{◌≡◌, ℕ, zero, suc, ◌+◌, ◌-◌, ◌<◌, ◌≤◌, ◌⊎◌, Bool, true, false, List, [], ◌∷◌, length, slice_index_or, refl, sym, subst, inl, inr, arith, add-one, if◌then◌else◌, eqb_tells}
use Rattle.dfa.proofs.Common.{Expression, Literal, Class, Sequence', Choice', Star', Plus', Optional', is_in_class, positions, literal_holders, holders, all_positions, all_holders, Among, Rises}
use Rattle.dfa.proofs.Sets.{among_append, among_left, among_right, rises_append, rises_lower}
use Rattle.dfa.proofs.Steps.{Holds, holds_below}
use Rattle.dfa.proofs.RuleLists.{HoldsIn}

-- the place x is one of n from o on, at which P holds
abbrev pub Place : (ℕ → Type 0) → ℕ → ℕ → Type 0
Place P o x = (q : ℕ) × (x ≡ o + q) × P q

abbrev HoldsAt : List ℕ → ℕ → ℕ → Type 0
HoldsAt xs c q = (q < length xs) × (slice_index_or xs q 0 ≡ c)

literal_cases : (c o d : ℕ) (ds : List ℕ) → ((d ≡ c) × (literal_holders c o (d ∷ ds) ≡ o ∷ literal_holders c (o + 1) ds))
    ⊎ ((d ≡ c → ⊥) × (literal_holders c o (d ∷ ds) ≡ literal_holders c (o + 1) ds))
literal_cases c o d ds = elim (eqb_tells d c) [ inl t ↦ inl (t.1, rw (t.0) refl) | inr t ↦ inr (t.1, rw (t.0) refl) ]

literal_rest : (d : ℕ) (ds : List ℕ) (c o x : ℕ) → Place (HoldsAt ds c) (o + 1) x → Place (HoldsAt (d ∷ ds) c) o x
literal_rest d ds c o x h = (suc h.0, omega (arith, h.1, add-one h.0), (omega (arith, h.2.0), h.2.1))

literal_sound : (xs : List ℕ) (c o x : ℕ) → Among (literal_holders c o xs) x → Place (HoldsAt xs c) o x
literal_sound [] c o x h = elim h [ ]
literal_sound (d ∷ ds) c o x h = elim (literal_cases c o d ds) [
  | inl t ↦ elim (subst (λ (l : List ℕ). Among l x) t.1 h) [ inl e ↦ (0, omega (arith, e), (omega arith, t.0)) | inr m ↦ literal_rest d ds c o x (literal_sound ds c (o + 1) x m) ]
  | inr t ↦ literal_rest d ds c o x (literal_sound ds c (o + 1) x (subst (λ (l : List ℕ). Among l x) t.1 h))
]

literal_complete : (xs : List ℕ) (c o q : ℕ) → HoldsAt xs c q → Among (literal_holders c o xs) (o + q)
literal_complete [] c o q h = absurd (omega (arith, h.0))
literal_complete (d ∷ ds) c o zero h = elim (literal_cases c o d ds) [ inl t ↦ subst (λ (l : List ℕ). Among l (o + 0)) (sym t.1) (inl (omega arith)) | inr t ↦ absurd (t.0 h.1) ]
literal_complete (d ∷ ds) c o (suc q) h =
    let e : o + 1 + q ≡ o + suc q = omega (arith, add-one q) in
    let m : Among (literal_holders c (o + 1) ds) (o + suc q) = subst (λ (x : ℕ). Among (literal_holders c (o + 1) ds) x) e (literal_complete ds c (o + 1) q (omega (arith, h.0), h.1)) in
    elim (literal_cases c o d ds) [ inl t ↦ subst (λ (l : List ℕ). Among l (o + suc q)) (sym t.1) (inr m) | inr t ↦ subst (λ (l : List ℕ). Among l (o + suc q)) (sym t.1) m ]

literal_rises : (xs : List ℕ) (c o : ℕ) → Rises o (literal_holders c o xs)
literal_rises [] c o = tt
literal_rises (d ∷ ds) c o = elim (literal_cases c o d ds) [
  | inl t ↦ subst (λ (l : List ℕ). Rises o l) (sym t.1) (omega arith, literal_rises ds c (o + 1))
  | inr t ↦ subst (λ (l : List ℕ). Rises o l) (sym t.1) (rises_lower o (o + 1) (literal_holders c (o + 1) ds) (omega arith) (literal_rises ds c (o + 1)))
]

class_cases : (b : Bool) (o : ℕ) → ((b ≡ true) × ((if b then o ∷ [] else []) ≡ o ∷ [])) ⊎ ((b ≡ false) × ((if b then o ∷ [] else []) ≡ []))
class_cases true o = inl (refl, refl)
class_cases false o = inr (refl, refl)

-- of two parts, one after another
two_sound : (P Q : ℕ → Type 0) (n o x : ℕ) → (Place P o x ⊎ Place Q (o + n) x) → Place (λ q. P q ⊎ (n ≤ q) × Q (q - n)) o x
two_sound P Q n o x (inl h) = (h.0, h.1, inl h.2)
two_sound P Q n o x (inr h) = (n + h.0, omega (arith, h.1), inr (omega arith, (let e : h.0 ≡ n + h.0 - n = omega arith in subst Q e h.2)))

pub holders_sound : (e : Expression) (c o x : ℕ) → Among (holders c o e) x → Place (Holds e c) o x
holders_sound (Literal v) c o x h = literal_sound v.items c o x h
holders_sound (Class negated v) c o x h = elim (class_cases (is_in_class negated v.items c) o) [
  | inl t ↦ elim (subst (λ (l : List ℕ). Among l x) t.1 h) [ inl e ↦ (0, omega (arith, e), (refl, t.0)) | inr m ↦ elim m [ ] ]
  | inr t ↦ elim (subst (λ (l : List ℕ). Among l x) t.1 h) [ ]
]
holders_sound (Sequence' i a j b) c o x h = two_sound (Holds a c) (Holds b c) (positions a) o x (elim (among_append (holders c o a) (holders c (o + positions a) b) x h) [
  | inl m ↦ inl (holders_sound a c o x m)
  | inr m ↦ inr (holders_sound b c (o + positions a) x m)
])
holders_sound (Choice' i a j b) c o x h = two_sound (Holds a c) (Holds b c) (positions a) o x (elim (among_append (holders c o a) (holders c (o + positions a) b) x h) [
  | inl m ↦ inl (holders_sound a c o x m)
  | inr m ↦ inr (holders_sound b c (o + positions a) x m)
])
holders_sound (Star' i a) c o x h = holders_sound a c o x h
holders_sound (Plus' i a) c o x h = holders_sound a c o x h
holders_sound (Optional' i a) c o x h = holders_sound a c o x h

moved : (xs : List ℕ) (m n : ℕ) → m ≡ n → Among xs m → Among xs n
moved xs m n e h = subst (λ (x : ℕ). Among xs x) e h

pub holders_complete : (e : Expression) (c o q : ℕ) → Holds e c q → Among (holders c o e) (o + q)
holders_complete (Literal v) c o q h = literal_complete v.items c o q h
holders_complete (Class negated v) c o q h = elim (class_cases (is_in_class negated v.items c) o) [
  | inl t ↦ subst (λ (l : List ℕ). Among l (o + q)) (sym t.1) (inl (omega (arith, h.0)))
  | inr t ↦ let y : is_in_class negated v.items c ≡ true = h.1 in let n = t.0 in cc
]
holders_complete (Sequence' i a j b) c o q (inl h) = among_left (holders c o a) (holders c (o + positions a) b) (o + q) (holders_complete a c o q h)
holders_complete (Sequence' i a j b) c o q (inr h) = among_right (holders c o a) (holders c (o + positions a) b) (o + q)
    (moved (holders c (o + positions a) b) (o + positions a + (q - positions a)) (o + q) (omega (arith, h.0)) (holders_complete b c (o + positions a) (q - positions a) h.1))
holders_complete (Choice' i a j b) c o q (inl h) = among_left (holders c o a) (holders c (o + positions a) b) (o + q) (holders_complete a c o q h)
holders_complete (Choice' i a j b) c o q (inr h) = among_right (holders c o a) (holders c (o + positions a) b) (o + q)
    (moved (holders c (o + positions a) b) (o + positions a + (q - positions a)) (o + q) (omega (arith, h.0)) (holders_complete b c (o + positions a) (q - positions a) h.1))
holders_complete (Star' i a) c o q h = holders_complete a c o q h
holders_complete (Plus' i a) c o q h = holders_complete a c o q h
holders_complete (Optional' i a) c o q h = holders_complete a c o q h

pub holders_below : (e : Expression) (c o x : ℕ) → Among (holders c o e) x → x < o + positions e
holders_below e c o x h = let t = holders_sound e c o x h in omega (arith, t.1, holds_below e c t.0 t.2)

pub holders_rise : (e : Expression) (c o : ℕ) → Rises o (holders c o e)
holders_rise (Literal v) c o = literal_rises v.items c o
holders_rise (Class negated v) c o = elim (class_cases (is_in_class negated v.items c) o) [
  | inl t ↦ subst (λ (l : List ℕ). Rises o l) (sym t.1) (omega arith, tt)
  | inr t ↦ subst (λ (l : List ℕ). Rises o l) (sym t.1) tt
]
holders_rise (Sequence' i a j b) c o = rises_append o (o + positions a) (holders c o a) (holders c (o + positions a) b) (omega arith)
    (holders_rise a c o) (holders_below a c o) (holders_rise b c (o + positions a))
holders_rise (Choice' i a j b) c o = rises_append o (o + positions a) (holders c o a) (holders c (o + positions a) b) (omega arith)
    (holders_rise a c o) (holders_below a c o) (holders_rise b c (o + positions a))
holders_rise (Star' i a) c o = holders_rise a c o
holders_rise (Plus' i a) c o = holders_rise a c o
holders_rise (Optional' i a) c o = holders_rise a c o

-- the same for a list of rules
pub all_sound : (rules : List Expression) (c o x : ℕ) → Among (all_holders c o rules) x → Place (HoldsIn rules c) o x
all_sound [] c o x h = elim h [ ]
all_sound (e ∷ es) c o x h = two_sound (Holds e c) (HoldsIn es c) (positions e) o x (elim (among_append (holders c o e) (all_holders c (o + positions e) es) x h) [
  | inl m ↦ inl (holders_sound e c o x m)
  | inr m ↦ inr (all_sound es c (o + positions e) x m)
])

pub all_complete : (rules : List Expression) (c o q : ℕ) → HoldsIn rules c q → Among (all_holders c o rules) (o + q)
all_complete [] c o q h = elim h [ ]
all_complete (e ∷ es) c o q (inl h) = among_left (holders c o e) (all_holders c (o + positions e) es) (o + q) (holders_complete e c o q h)
all_complete (e ∷ es) c o q (inr h) = among_right (holders c o e) (all_holders c (o + positions e) es) (o + q)
    (moved (all_holders c (o + positions e) es) (o + positions e + (q - positions e)) (o + q) (omega (arith, h.0)) (all_complete es c (o + positions e) (q - positions e) h.1))

pub all_rise : (rules : List Expression) (c o : ℕ) → Rises o (all_holders c o rules)
all_rise [] c o = tt
all_rise (e ∷ es) c o = rises_append o (o + positions e) (holders c o e) (all_holders c (o + positions e) es) (omega arith)
    (holders_rise e c o) (holders_below e c o) (all_rise es c (o + positions e))

holds_all_below : (rules : List Expression) (c q : ℕ) → HoldsIn rules c q → q < all_positions rules
holds_all_below [] c q h = elim h [ ]
holds_all_below (e ∷ es) c q (inl h) = omega (arith, holds_below e c q h)
holds_all_below (e ∷ es) c q (inr h) = omega (arith, h.0, holds_all_below es c (q - positions e) h.1)

pub all_below : (rules : List Expression) (c x : ℕ) → Among (all_holders c 0 rules) x → x < all_positions rules
all_below rules c x h = let t = all_sound rules c 0 x h in omega (arith, t.1, holds_all_below rules c t.0 t.2)
