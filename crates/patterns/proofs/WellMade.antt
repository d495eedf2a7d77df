-- The tests of an expression decide what they are meant to.
use Rattle.patterns.proofs.Std.{◌≡◌, ◌≢◌, inl, inr, ℕ, ◌+◌, ◌==◌, ◌≤◌, nat_le, Bool, true, false, not, ◌&&◌, ◌||◌, List, [], ◌∷◌, ◌++◌, refl, sym, ap, subst, arith, lit≤, nat_tests, list_all, concat, AllByRecursion, and_parts, not-true, or_left, or_right}
use Rattle.patterns.proofs.Common.{Interval, Expression, Literal, Class, Sequence', Choice', Star', Plus', Optional', IsCharacter, is_member, is_in_class, Matches, is_scalar, code_after, is_everything, is_nothing, IsWellMade, is_empty, matches_empty, is_range, is_sound}
use Rattle.patterns.proofs.Literals.{eq_or_not, not_equal}

not_false : (a : Bool) → a ≡ false → not a ≡ true
not_false a h = ap not h

scalar_character : (c : ℕ) → is_scalar c ≡ true → IsCharacter c
scalar_character c h = grind (arith, nat_tests)

after : (c : ℕ) → is_scalar c ≡ true → (c == 0x10_FFFF) ≡ false → c ≢ 0xD7FF → IsCharacter (c + 1)
after c h g other = grind (arith, nat_tests)

next_character : (c : ℕ) → is_scalar c ≡ true → (c == 0x10_FFFF) ≡ false → IsCharacter (code_after c)
next_character c h g =
    let P : ℕ → Type 0 = λ x. IsCharacter (code_after x) in
    elim (eq_or_not c 0xD7FF) [ inl e ↦ subst P (sym e) (inr (lit≤ tt, lit≤ tt)) | inr other ↦ rw (not_equal c 0xD7FF other) (after c h g other) ]

gap_at : (all : List Interval) (i : Interval) (is : List Interval) → list_all is_range (i ∷ is) ≡ true → (a b : Bool) → (i.last == 0x10_FFFF) ≡ a
    → is_member (code_after i.last) all ≡ b → list_all (λ j. j.last == 0x10_FFFF || is_member (code_after j.last) all) (i ∷ is) ≡ false
    → (list_all (λ j. j.last == 0x10_FFFF || is_member (code_after j.last) all) is ≡ false → (c : ℕ) × IsCharacter c × (is_member c all ≡ false)) → (c : ℕ) × IsCharacter c × (is_member c all ≡ false)
gap_at all i is r true b e f h later = later (rw e at h)
gap_at all i is r false true e f h later = later (rw (e, f) at h)
gap_at all i is r false false e f h later =
    let g = and_parts (is_range i) (list_all is_range is) r in
    let k = and_parts (is_scalar i.first) (is_scalar i.last && nat_le i.first i.last) g.0 in
    (code_after i.last, next_character i.last (and_parts (is_scalar i.last) (nat_le i.first i.last) k.1).0 e, f)

-- some character lies after an interval and in none
gap : (all is : List Interval) → list_all is_range is ≡ true → list_all (λ i. i.last == 0x10_FFFF || is_member (code_after i.last) all) is ≡ false
    → (c : ℕ) × IsCharacter c × (is_member c all ≡ false)
gap all [] r h = cc
gap all (i ∷ is) r h = gap_at all i is r (i.last == 0x10_FFFF) (is_member (code_after i.last) all) refl refl h (gap all is (and_parts (is_range i) (list_all is_range is) r).1)

outside_at : (is : List Interval) (b : Bool) → is_member 0 is ≡ b → is_everything is ≡ false
    → (list_all (λ i. i.last == 0x10_FFFF || is_member (code_after i.last) is) is ≡ false → (c : ℕ) × IsCharacter c × (is_member c is ≡ false)) → (c : ℕ) × IsCharacter c × (is_member c is ≡ false)
outside_at is true e h later = later (rw e at h)
outside_at is false e h later = (0, inl (lit≤ tt), e)

reflexive : (a : ℕ) → nat_le a a ≡ true
reflexive a = grind (arith, nat_tests)

pub le_tested : (a b : ℕ) → nat_le a b ≡ true → a ≤ b
le_tested a b h = grind (arith, nat_tests)

some_outside : (is : List Interval) → list_all is_range is ≡ true → is_everything is ≡ false → (c : ℕ) × IsCharacter c × (is_member c is ≡ false)
some_outside is r h = outside_at is (is_member 0 is) refl h (gap is is r)

pub has_member : (negated : Bool) (is : List Interval) → list_all is_range is ≡ true → is_nothing negated is ≡ false → (c : ℕ) × IsCharacter c × (is_in_class negated is c ≡ true)
has_member true is r h = let g = some_outside is r h in (g.0, g.1, not_false (is_member g.0 is) g.2)
has_member false [] r h = cc
has_member false (i ∷ is) r h =
    let e = and_parts (is_range i) (list_all is_range is) r in
    let f = and_parts (is_scalar i.first) (is_scalar i.last && nat_le i.first i.last) e.0 in
    (i.first, scalar_character i.first f.0, rw (reflexive i.first, (and_parts (is_scalar i.last) (nat_le i.first i.last) f.1).1) refl)

pub ranges : (is : List Interval) → list_all is_range is ≡ true → AllByRecursion (λ i. i.first ≤ i.last) is
ranges [] h = tt
ranges (i ∷ is) h =
    let e = and_parts (is_range i) (list_all is_range is) h in
    let f = and_parts (is_scalar i.first) (is_scalar i.last && nat_le i.first i.last) e.0 in
    (le_tested i.first i.last (and_parts (is_scalar i.last) (nat_le i.first i.last) f.1).1, ranges is e.1)

pub filled : {A : Type 0} (xs : List A) → not (is_empty xs) ≡ true → xs ≢ []
filled [] h p = cc
filled (x ∷ xs) h p = cc

-- what the test finds sound is well made
pub well_made : (e : Expression) → is_sound e ≡ true → IsWellMade e
well_made (Literal v) h = filled v.items h
well_made (Class negated v) h =
    let e = and_parts (list_all is_range v.items) (not (is_nothing negated v.items)) h in
    (ranges v.items e.0, has_member negated v.items e.0 (not-true (is_nothing negated v.items) e.1))
well_made (Sequence' p a q b) h = let e = and_parts (is_sound a) (is_sound b) h in (well_made a e.0, well_made b e.1)
well_made (Choice' p a q b) h = let e = and_parts (is_sound a) (is_sound b) h in (well_made a e.0, well_made b e.1)
well_made (Star' p a) h = well_made a h
well_made (Plus' p a) h = well_made a h
well_made (Optional' p a) h = well_made a h

none_in : {A : Type 0} (xs : List A) → is_empty xs ≡ true → [] ≡ xs
none_in [] h = refl
none_in (x ∷ xs) h = cc

pub or_case : {P : Type 0} (a b : Bool) → (a || b) ≡ true → (a ≡ true → P) → (b ≡ true → P) → P
or_case true b h f g = f refl
or_case false b h f g = g h

nonempty : (u : List ℕ) → (u ∷ []) ≢ []
nonempty u e = cc

-- the test of the empty text finds what matches it
pub empty_matched : (e : Expression) → matches_empty e ≡ true → Matches e []
empty_matched (Literal v) h = none_in v.items h
empty_matched (Class negated v) h = cc
empty_matched (Sequence' p a q b) h = let e = and_parts (matches_empty a) (matches_empty b) h in ([], [], refl, empty_matched a e.0, empty_matched b e.1)
empty_matched (Choice' p a q b) h = or_case (matches_empty a) (matches_empty b) h (λ g. inl (empty_matched a g)) (λ g. inr (empty_matched b g))
empty_matched (Star' p a) h = ([], tt, refl)
empty_matched (Plus' p a) h = ([] ∷ [], nonempty [], (empty_matched a h, tt), refl)
empty_matched (Optional' p a) h = inl refl

no_prefix : (u v : List ℕ) → [] ≡ u ++ v → (u ≡ []) × (v ≡ [])
no_prefix [] v e = (refl, sym e)
no_prefix (x ∷ u) v e = cc

first_of_join : (L : List ℕ → Type 0) (parts : List (List ℕ)) → parts ≢ [] → AllByRecursion L parts → [] ≡ concat parts → L []
first_of_join L [] ne all e = absurd (ne refl)
first_of_join L (u ∷ us) ne all e = subst L (no_prefix u (concat us) e).0 all.0

-- and all that does
pub empty_tested : (e : Expression) → Matches e [] → matches_empty e ≡ true
empty_tested (Literal v) h = sym (ap is_empty h)
empty_tested (Class negated v) (c, e, k, m) = cc
empty_tested (Sequence' p a q b) (u, v, e, f, g) =
    let split = no_prefix u v e in
    let P : List ℕ → Type 0 = Matches a in
    let Q : List ℕ → Type 0 = Matches b in
    rw (empty_tested a (subst P split.0 f), empty_tested b (subst Q split.1 g)) refl
empty_tested (Choice' p a q b) (inl h) = or_left (matches_empty a) (matches_empty b) (empty_tested a h)
empty_tested (Choice' p a q b) (inr h) = or_right (matches_empty a) (matches_empty b) (empty_tested b h)
empty_tested (Plus' p a) (parts, ne, all, e) = empty_tested a (first_of_join (Matches a) parts ne all e)
empty_tested d h = refl
