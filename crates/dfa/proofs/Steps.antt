-- One more character moves the marks to where it can stand.
use Rattle.dfa.proofs.Std.{◌≡◌, ℕ, zero, suc, ◌+◌, ◌-◌, ◌<◌, ◌≤◌, ◌⊎◌, Bool, true, false, ◌||◌, List, [], ◌∷◌, ◌++◌, length, slice_index_or, IsTrue, refl, sym, ap, ◌∙◌, subst, inl, inr, arith, add-one, append-nil, length-append, get_or_append_left, get_or-append_right}
use Rattle.dfa.proofs.Common.{Expression, Literal, Class, Sequence', Choice', Star', Plus', Optional', Matches, IsJoin, is_in_class, IsCharacter, positions, Then, CanStandAt, mark, ends, literal_next, next}
use Rattle.dfa.proofs.LastPositions.{Stands, Is, then_left, then_right, sequence_first, sequence_second, sequence_cases, choice_cases}
use Rattle.dfa.proofs.Ends.{Only, Every, InRest, rest_from, rest_to, only_rest, every_rest, only_start, every_start, only_first, every_first, only_second, every_second, only_one, every_one, only_other, every_other, Again, only_again, every_again, ends_sound, ends_complete}

-- the position q of the expression holds the character c
abbrev pub Holds : Expression → ℕ → ℕ → Type 0
Holds (Literal v) c q = (q < length v.items) × (slice_index_or v.items q 0 ≡ c)
Holds (Class negated v) c q = (q ≡ 0) × IsTrue (is_in_class negated v.items c)
Holds (Sequence' i a j b) c q = Holds a c q ⊎ (positions a ≤ q) × Holds b c (q - positions a)
Holds (Choice' i a j b) c q = Holds a c q ⊎ (positions a ≤ q) × Holds b c (q - positions a)
Holds (Star' i a) c q = Holds a c q
Holds (Plus' i a) c q = Holds a c q
Holds (Optional' i a) c q = Holds a c q

pub holds_below : (e : Expression) (c q : ℕ) → Holds e c q → q < positions e
holds_below (Literal v) c q h = h.0
holds_below (Class negated v) c q h = omega (arith, h.0)
holds_below (Sequence' i a j b) c q (inl h) = omega (arith, holds_below a c q h)
holds_below (Sequence' i a j b) c q (inr h) = omega (arith, h.0, holds_below b c (q - positions a) h.1)
holds_below (Choice' i a j b) c q (inl h) = omega (arith, holds_below a c q h)
holds_below (Choice' i a j b) c q (inr h) = omega (arith, h.0, holds_below b c (q - positions a) h.1)
holds_below (Star' i a) c q h = holds_below a c q h
holds_below (Plus' i a) c q h = holds_below a c q h
holds_below (Optional' i a) c q h = holds_below a c q h

pub length-literal_next : (marks : List Bool) (o : ℕ) (start : Bool) (xs : List ℕ) → length (literal_next marks o start xs) ≡ length xs
length-literal_next marks o start [] = refl
length-literal_next marks o start (d ∷ ds) = ap suc (length-literal_next marks (o + 1) (mark marks o) ds)

pub length-next : (e : Expression) (marks : List Bool) (o : ℕ) (start : Bool) → length (next marks o start e) ≡ positions e
length-next (Literal v) marks o start = length-literal_next marks o start v.items
length-next (Class negated v) marks o start = refl
length-next (Sequence' i a j b) marks o start =
    omega (
      arith,
      length-append (next marks o start a) (next marks (o + positions a) (ends marks o start a) b),
      length-next a marks o start,
      length-next b marks (o + positions a) (ends marks o start a),
    )
length-next (Choice' i a j b) marks o start =
    omega (arith, length-append (next marks o start a) (next marks (o + positions a) start b), length-next a marks o start, length-next b marks (o + positions a) start)
length-next (Star' i a) marks o start = length-next a marks o (ends marks o start a || start)
length-next (Plus' i a) marks o start = length-next a marks o (ends marks o start a || start)
length-next (Optional' i a) marks o start = length-next a marks o start

-- a mark of two lists, one after another
pub mark_left : (xs ys : List Bool) (n q : ℕ) → length xs ≡ n → q < n → mark (xs ++ ys) q ≡ mark xs q
mark_left xs ys n q e lt = get_or_append_left xs ys false q (omega arith)

pub mark_right : (xs ys : List Bool) (n q : ℕ) → length xs ≡ n → n ≤ q → mark (xs ++ ys) q ≡ mark ys (q - n)
mark_right xs ys n q e le = get_or-append_right xs ys n q false e le

last_equal : (u v : List ℕ) (c d : ℕ) → u ++ c ∷ [] ≡ v ++ d ∷ [] → (u ≡ v) × (c ≡ d)
last_equal [] [] c d e = (refl, (cc))
last_equal [] (y ∷ []) c d e = cc
last_equal [] (y ∷ (z ∷ v)) c d e = cc
last_equal (x ∷ []) [] c d e = cc
last_equal (x ∷ (z ∷ u)) [] c d e = cc
last_equal (x ∷ u) (y ∷ v) c d e =
    let p : x ≡ y = cc in
    let q : u ++ c ∷ [] ≡ v ++ d ∷ [] = cc in
    let r = last_equal u v c d q in
    let s = r.0 in
    ((cc), r.1)

literal_step_sound : (K : List ℕ → Type 0) (marks : List Bool) (o : ℕ) (start : Bool) (xs u : List ℕ) (c q : ℕ) → (start ≡ true → K u) → Only (InRest K xs) (length xs) marks o u
    → mark (literal_next marks o start xs) q ≡ true → (q < length xs) × (slice_index_or xs q 0 ≡ c) → InRest K xs q (u ++ c ∷ [])
literal_step_sound K marks o start [] u c q k h m s = absurd (omega (arith, s.0))
literal_step_sound K marks o start (d ∷ ds) u c zero k h m s = (u, c ∷ [], refl, k m, (omega arith, ap (λ x. x ∷ []) (sym s.1)))
literal_step_sound K marks o start (d ∷ ds) u c (suc q) k h m s =
    let t = literal_step_sound (Then K (Is (d ∷ []))) marks (o + 1) (mark marks o) ds u c q (only_start K marks o d ds u h) (only_rest K marks o d ds u h) m (omega (arith, s.0), s.1) in
    subst (λ (n : ℕ). InRest K (d ∷ ds) n (u ++ c ∷ [])) (add-one q) (rest_to K d ds q (u ++ c ∷ []) t)

literal_step_complete : (K : List ℕ → Type 0) (marks : List Bool) (o : ℕ) (start : Bool) (xs u : List ℕ) (c q : ℕ) → (K u → start ≡ true) → Every (InRest K xs) (length xs) marks o u
    → InRest K xs q (u ++ c ∷ []) → (mark (literal_next marks o start xs) q ≡ true) × (q < length xs) × (slice_index_or xs q 0 ≡ c)
literal_step_complete K marks o start [] u c q k h s = absurd (omega (arith, s.4.0))
literal_step_complete K marks o start (d ∷ ds) u c zero k h s =
    let t = s.4 in
    let e = last_equal u s.0 c d (s.2 ∙ ap (λ x. s.0 ++ x) t.1) in
    (k (subst K (sym e.0) s.3), omega arith, sym e.1)
literal_step_complete K marks o start (d ∷ ds) u c (suc q) k h s =
    let s' : InRest K (d ∷ ds) (q + 1) (u ++ c ∷ []) = subst (λ (n : ℕ). InRest K (d ∷ ds) n (u ++ c ∷ [])) (sym (add-one q)) s in
    let t = literal_step_complete (Then K (Is (d ∷ []))) marks (o + 1) (mark marks o) ds u c q (every_start K marks o d ds u h)
    (every_rest K marks o d ds u h) (rest_from K d ds q (u ++ c ∷ []) s') in
    (t.0, omega (arith, t.1), t.2)

pub step_sound : (e : Expression) (K : List ℕ → Type 0) (marks : List Bool) (o : ℕ) (start : Bool) (u : List ℕ) (c q : ℕ) → IsCharacter c → (start ≡ true → K u)
    → Only (Stands K e) (positions e) marks o u → mark (next marks o start e) q ≡ true → Holds e c q → Stands K e q (u ++ c ∷ [])
step_sound (Literal v) K marks o start u c q is k h m s = literal_step_sound K marks o start v.items u c q k h m s
step_sound (Class negated v) K marks o start u c q is k h m s =
    let f : mark (start ∷ []) 0 ≡ true = subst (λ (n : ℕ). mark (start ∷ []) n ≡ true) s.0 m in
    (u, c ∷ [], refl, k f, (s.0, (c, refl, is, s.1)))
step_sound (Sequence' i a j b) K marks o start u c q is k h m (inl s) =
    let f = mark_left (next marks o start a) (next marks (o + positions a) (ends marks o start a) b) (positions a) q (length-next a marks o start) (holds_below a c q s) in
    sequence_first K a b i j q (u ++ c ∷ []) (step_sound a K marks o start u c q is k (only_first K a b i j marks o u h) (sym f ∙ m) s)
step_sound (Sequence' i a j b) K marks o start u c q is k h m (inr s) =
    let f = mark_right (next marks o start a) (next marks (o + positions a) (ends marks o start a) b) (positions a) q (length-next a marks o start) s.0 in
    sequence_second K a b i j q (u ++ c ∷ []) s.0 (step_sound b (Then K (Matches a)) marks (o + positions a) (ends marks o start a) u c (q - positions a) is
    (ends_sound a K marks o start u k (only_first K a b i j marks o u h)) (only_second K a b i j marks o u h) (sym f ∙ m) s.1)
step_sound (Choice' i a j b) K marks o start u c q is k h m (inl s) =
    let f = mark_left (next marks o start a) (next marks (o + positions a) start b) (positions a) q (length-next a marks o start) (holds_below a c q s) in
    let t = step_sound a K marks o start u c q is k (only_one K a b i j marks o u h) (sym f ∙ m) s in
    (t.0, t.1, t.2, t.3, inl t.4)
step_sound (Choice' i a j b) K marks o start u c q is k h m (inr s) =
    let f = mark_right (next marks o start a) (next marks (o + positions a) start b) (positions a) q (length-next a marks o start) s.0 in
    let t = step_sound b K marks (o + positions a) start u c (q - positions a) is k (only_other K a b i j marks o u h) (sym f ∙ m) s.1 in
    (t.0, t.1, t.2, t.3, inr (s.0, t.4))
step_sound (Star' i a) K marks o start u c q is k h m s =
    let r : (ends marks o start a || start) ≡ true → Again K a u = ends_sound (Star' i a) K marks o start u k h in
    then_right K (IsJoin (Matches a)) (CanStandAt a q) (u ++ c ∷ []) (step_sound a (Again K a) marks o (ends marks o start a || start) u c q is r (only_again K a marks o u h) m s)
step_sound (Plus' i a) K marks o start u c q is k h m s =
    let r : (ends marks o start a || start) ≡ true → Again K a u = ends_sound (Star' i a) K marks o start u k h in
    then_right K (IsJoin (Matches a)) (CanStandAt a q) (u ++ c ∷ []) (step_sound a (Again K a) marks o (ends marks o start a || start) u c q is r (only_again K a marks o u h) m s)
step_sound (Optional' i a) K marks o start u c q is k h m s = step_sound a K marks o start u c q is k h m s

-- where K can be after the first texts, the flag of the part says so
again_complete : (a : Expression) (i : _) (K : List ℕ → Type 0) (marks : List Bool) (o : ℕ) (start : Bool) (u : List ℕ) → (K u → start ≡ true)
    → Every (Stands K (Star' i a)) (positions a) marks o u → Again K a u → (ends marks o start a || start) ≡ true
again_complete a i K marks o start u k h t = ends_complete (Star' i a) K marks o start u t.0 t.1 h t.2 t.3 t.4 (λ none. k (subst K (sym (t.2 ∙ ap (λ x. t.0 ++ x) none ∙ append-nil t.0)) t.3))

pub step_complete : (e : Expression) (K : List ℕ → Type 0) (marks : List Bool) (o : ℕ) (start : Bool) (u : List ℕ) (c q : ℕ) → (K u → start ≡ true)
    → Every (Stands K e) (positions e) marks o u → Stands K e q (u ++ c ∷ []) → (mark (next marks o start e) q ≡ true) × Holds e c q
step_complete (Literal v) K marks o start u c q k h s = let t = literal_step_complete K marks o start v.items u c q k h s in (t.0, (t.1, t.2))
step_complete (Class negated v) K marks o start u c q k h s =
    let t = s.4 in
    let m = t.1 in
    let e = last_equal u s.0 c m.0 (s.2 ∙ ap (λ x. s.0 ++ x) m.1) in
    let f : mark (start ∷ []) 0 ≡ true = k (subst K (sym e.0) s.3) in
    (subst (λ (n : ℕ). mark (start ∷ []) n ≡ true) (sym t.0) f, (t.0, subst (λ (x : ℕ). IsTrue (is_in_class negated v.items x)) (sym e.1) m.3))
step_complete (Sequence' i a j b) K marks o start u c q k h s =
    let xs = next marks o start a in
    let ys = next marks (o + positions a) (ends marks o start a) b in
    elim (sequence_cases K a b i j q (u ++ c ∷ []) s) [
      | inl x ↦
          let t = step_complete a K marks o start u c q k (every_first K a b i j marks o u h) x in
          (mark_left xs ys (positions a) q (length-next a marks o start) (holds_below a c q t.1) ∙ t.0, inl t.1)
      | inr x ↦
          let between : Then K (Matches a) u → ends marks o start a ≡ true = λ y. ends_complete a K marks o start u y.0 y.1 (every_first K a b i j marks o u h) y.2 y.3 y.4
          (λ none. k (subst K (sym (y.2 ∙ ap (λ z. y.0 ++ z) none ∙ append-nil y.0)) y.3)) in
          let t = step_complete b (Then K (Matches a)) marks (o + positions a) (ends marks o start a) u c (q - positions a) between (every_second K a b i j marks o u h) x.1 in
          (mark_right xs ys (positions a) q (length-next a marks o start) x.0 ∙ t.0, inr (x.0, t.1))
    ]
step_complete (Choice' i a j b) K marks o start u c q k h s =
    let xs = next marks o start a in
    let ys = next marks (o + positions a) start b in
    elim (choice_cases K a b i j q (u ++ c ∷ []) s) [
      | inl x ↦
          let t = step_complete a K marks o start u c q k (every_one K a b i j marks o u h) x in
          (mark_left xs ys (positions a) q (length-next a marks o start) (holds_below a c q t.1) ∙ t.0, inl t.1)
      | inr x ↦
          let t = step_complete b K marks (o + positions a) start u c (q - positions a) k (every_other K a b i j marks o u h) x.1 in
          (mark_right xs ys (positions a) q (length-next a marks o start) x.0 ∙ t.0, inr (x.0, t.1))
    ]
step_complete (Star' i a) K marks o start u c q k h s = step_complete a (Again K a) marks o (ends marks o start a || start) u c q (again_complete a i K marks o start u k h)
    (every_again K a marks o u h) (then_left K (IsJoin (Matches a)) (CanStandAt a q) (u ++ c ∷ []) s)
step_complete (Plus' i a) K marks o start u c q k h s = step_complete a (Again K a) marks o (ends marks o start a || start) u c q (again_complete a i K marks o start u k h)
    (every_again K a marks o u h) (then_left K (IsJoin (Matches a)) (CanStandAt a q) (u ++ c ∷ []) s)
step_complete (Optional' i a) K marks o start u c q k h s = step_complete a K marks o start u c q k h s
