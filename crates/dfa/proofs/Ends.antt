-- The marks of a text say whether it ends with a text of the expression.
use Rattle.dfa.proofs.Std.{◌≡◌, ℕ, ◌+◌, ◌-◌, ◌<◌, Bool, true, List, [], ◌∷◌, ◌++◌, length, take, refl, sym, ap, ◌∙◌, subst, inl, inr, arith, add-one, concat, append-nil, append_assoc, or_cases, or_left, or_right}
use Rattle.dfa.proofs.Common.{Expression, Literal, Class, Sequence', Choice', Star', Plus', Optional', Matches, IsJoin, IsNonemptyJoin, positions, Then, CanStandAt, mark, literal_end, ends}
use Rattle.dfa.proofs.LastPositions.{Stands, InLiteral, Is, then_left, then_right, below, join_none, join_more, nonempty_join, last_part, sequence_first, sequence_second, sequence_cases}

-- the marks from o on are places where the last character of u can stand in e, and they are all of these
abbrev pub Only : (ℕ → List ℕ → Type 0) → ℕ → List Bool → ℕ → List ℕ → Type 0
Only S n marks o u = (q : ℕ) → q < n → mark marks (o + q) ≡ true → S q u

abbrev pub Every : (ℕ → List ℕ → Type 0) → ℕ → List Bool → ℕ → List ℕ → Type 0
Every S n marks o u = (q : ℕ) → q < n → S q u → mark marks (o + q) ≡ true

abbrev pub InRest : (List ℕ → Type 0) → List ℕ → ℕ → List ℕ → Type 0
InRest K xs q u = Then K (InLiteral xs q) u

pub mark_moved : (marks : List Bool) (m n : ℕ) → m ≡ n → mark marks m ≡ true → mark marks n ≡ true
mark_moved marks m n e h = subst (λ (k : ℕ). mark marks k ≡ true) e h

stands_moved : (K : List ℕ → Type 0) (b : Expression) (m n : ℕ) (u : List ℕ) → m ≡ n → Stands K b m u → Stands K b n u
stands_moved K b m n u e h = subst (λ (k : ℕ). Stands K b k u) e h

-- a literal after its first character
pub rest_from : (K : List ℕ → Type 0) (d : ℕ) (ds : List ℕ) (q : ℕ) (u : List ℕ) → InRest K (d ∷ ds) (q + 1) u → InRest (Then K (Is (d ∷ []))) ds q u
rest_from K d ds q u h =
    let t = h.4 in
    let e : take (q + 1 + 1) (d ∷ ds) ≡ (d ∷ []) ++ take (q + 1) ds = rw add-one refl in
    let w : h.1 ≡ (d ∷ []) ++ take (q + 1) ds = t.1 ∙ e in
    (h.0 ++ d ∷ [], take (q + 1) ds, h.2 ∙ ap (λ x. h.0 ++ x) w ∙ sym (append_assoc h.0 (d ∷ []) (take (q + 1) ds)), (h.0, d ∷ [], refl, h.3, refl), (omega (arith, t.0), refl))

pub rest_to : (K : List ℕ → Type 0) (d : ℕ) (ds : List ℕ) (q : ℕ) (u : List ℕ) → InRest (Then K (Is (d ∷ []))) ds q u → InRest K (d ∷ ds) (q + 1) u
rest_to K d ds q u h =
    let k = h.3 in
    let t = h.4 in
    let e : take (q + 1 + 1) (d ∷ ds) ≡ (d ∷ []) ++ take (q + 1) ds = rw add-one refl in
    let v : h.0 ≡ k.0 ++ d ∷ [] = k.2 ∙ ap (λ x. k.0 ++ x) k.4 in
    (k.0, (d ∷ []) ++ take (q + 1) ds, h.2 ∙ ap (λ x. x ++ h.1) v ∙ append_assoc k.0 (d ∷ []) h.1 ∙ ap (λ x. k.0 ++ ((d ∷ []) ++ x)) t.1, k.3, (omega (arith, t.0), sym e))

pub rest_first : (K : List ℕ → Type 0) (d : ℕ) (ds : List ℕ) (u : List ℕ) → InRest K (d ∷ ds) 0 u → Then K (Is (d ∷ [])) u
rest_first K d ds u h = let t = h.4 in (h.0, h.1, h.2, h.3, t.1)

pub rest_start : (K : List ℕ → Type 0) (d : ℕ) (ds : List ℕ) (u : List ℕ) → Then K (Is (d ∷ [])) u → InRest K (d ∷ ds) 0 u
rest_start K d ds u h = (h.0, h.1, h.2, h.3, (omega arith, h.4))

pub only_rest : (K : List ℕ → Type 0) (marks : List Bool) (o d : ℕ) (ds : List ℕ) (u : List ℕ) → Only (InRest K (d ∷ ds)) (length (d ∷ ds)) marks o u
    → Only (InRest (Then K (Is (d ∷ []))) ds) (length ds) marks (o + 1) u
only_rest K marks o d ds u h q lt m = rest_from K d ds q u (h (q + 1) (omega (arith, lt)) (mark_moved marks (o + 1 + q) (o + (q + 1)) (omega arith) m))

pub every_rest : (K : List ℕ → Type 0) (marks : List Bool) (o d : ℕ) (ds : List ℕ) (u : List ℕ) → Every (InRest K (d ∷ ds)) (length (d ∷ ds)) marks o u
    → Every (InRest (Then K (Is (d ∷ []))) ds) (length ds) marks (o + 1) u
every_rest K marks o d ds u h q lt s = mark_moved marks (o + (q + 1)) (o + 1 + q) (omega arith) (h (q + 1) (omega (arith, lt)) (rest_to K d ds q u s))

pub only_start : (K : List ℕ → Type 0) (marks : List Bool) (o d : ℕ) (ds : List ℕ) (u : List ℕ) → Only (InRest K (d ∷ ds)) (length (d ∷ ds)) marks o u → mark marks o ≡ true → Then K (Is (d ∷ [])) u
only_start K marks o d ds u h m = rest_first K d ds u (h 0 (omega arith) (mark_moved marks o (o + 0) (omega arith) m))

pub every_start : (K : List ℕ → Type 0) (marks : List Bool) (o d : ℕ) (ds : List ℕ) (u : List ℕ) → Every (InRest K (d ∷ ds)) (length (d ∷ ds)) marks o u → Then K (Is (d ∷ [])) u → mark marks o ≡ true
every_start K marks o d ds u h s = mark_moved marks (o + 0) o (omega arith) (h 0 (omega arith) (rest_start K d ds u s))

-- the marks of the parts of an expression
pub only_first : (K : List ℕ → Type 0) (a b : Expression) (i j : _) (marks : List Bool) (o : ℕ) (u : List ℕ)
    → Only (Stands K (Sequence' i a j b)) (positions a + positions b) marks o u → Only (Stands K a) (positions a) marks o u
only_first K a b i j marks o u h q lt m = elim (sequence_cases K a b i j q u (h q (omega (arith, lt)) m)) [ inl s ↦ s | inr s ↦ absurd (omega (arith, s.0, lt)) ]

pub every_first : (K : List ℕ → Type 0) (a b : Expression) (i j : _) (marks : List Bool) (o : ℕ) (u : List ℕ)
    → Every (Stands K (Sequence' i a j b)) (positions a + positions b) marks o u → Every (Stands K a) (positions a) marks o u
every_first K a b i j marks o u h q lt s = h q (omega (arith, lt)) (sequence_first K a b i j q u s)

pub only_second : (K : List ℕ → Type 0) (a b : Expression) (i j : _) (marks : List Bool) (o : ℕ) (u : List ℕ) → Only (Stands K (Sequence' i a j b)) (positions a + positions b) marks o u
    → Only (Stands (Then K (Matches a)) b) (positions b) marks (o + positions a) u
only_second K a b i j marks o u h q lt m =
    elim (sequence_cases K a b i j (positions a + q) u (h (positions a + q) (omega (arith, lt)) (mark_moved marks (o + positions a + q) (o + (positions a + q)) (omega arith) m))) [
      | inl s ↦ absurd (omega (arith, below a (positions a + q) s.1 s.4))
      | inr s ↦ stands_moved (Then K (Matches a)) b (positions a + q - positions a) q u (omega arith) s.1
    ]

pub every_second : (K : List ℕ → Type 0) (a b : Expression) (i j : _) (marks : List Bool) (o : ℕ) (u : List ℕ) → Every (Stands K (Sequence' i a j b)) (positions a + positions b) marks o u
    → Every (Stands (Then K (Matches a)) b) (positions b) marks (o + positions a) u
every_second K a b i j marks o u h q lt s = mark_moved marks (o + (positions a + q)) (o + positions a + q) (omega arith)
    (h (positions a + q) (omega (arith, lt)) (sequence_second K a b i j (positions a + q) u (omega arith) (stands_moved (Then K (Matches a)) b q (positions a + q - positions a) u (omega arith) s)))

pub only_one : (K : List ℕ → Type 0) (a b : Expression) (i j : _) (marks : List Bool) (o : ℕ) (u : List ℕ)
    → Only (Stands K (Choice' i a j b)) (positions a + positions b) marks o u → Only (Stands K a) (positions a) marks o u
only_one K a b i j marks o u h q lt m =
    let s = h q (omega (arith, lt)) m in
    elim (s.4) [ inl x ↦ (s.0, s.1, s.2, s.3, x) | inr x ↦ absurd (omega (arith, x.0, lt)) ]

pub every_one : (K : List ℕ → Type 0) (a b : Expression) (i j : _) (marks : List Bool) (o : ℕ) (u : List ℕ)
    → Every (Stands K (Choice' i a j b)) (positions a + positions b) marks o u → Every (Stands K a) (positions a) marks o u
every_one K a b i j marks o u h q lt s = h q (omega (arith, lt)) (s.0, s.1, s.2, s.3, inl s.4)

pub only_other : (K : List ℕ → Type 0) (a b : Expression) (i j : _) (marks : List Bool) (o : ℕ) (u : List ℕ) → Only (Stands K (Choice' i a j b))
    (positions a + positions b) marks o u → Only (Stands K b) (positions b) marks (o + positions a) u
only_other K a b i j marks o u h q lt m =
    let s = h (positions a + q) (omega (arith, lt)) (mark_moved marks (o + positions a + q) (o + (positions a + q)) (omega arith) m) in
    elim (s.4) [ inl x ↦ absurd (omega (arith, below a (positions a + q) s.1 x)) | inr x ↦ stands_moved K b (positions a + q - positions a) q u (omega arith) (s.0, s.1, s.2, s.3, x.1) ]

pub every_other : (K : List ℕ → Type 0) (a b : Expression) (i j : _) (marks : List Bool) (o : ℕ) (u : List ℕ) → Every (Stands K (Choice' i a j b))
    (positions a + positions b) marks o u → Every (Stands K b) (positions b) marks (o + positions a) u
every_other K a b i j marks o u h q lt s =
    let t : Stands K b (positions a + q - positions a) u = stands_moved K b q (positions a + q - positions a) u (omega arith) s in
    mark_moved marks (o + (positions a + q)) (o + positions a + q) (omega arith) (h (positions a + q) (omega (arith, lt)) (t.0, t.1, t.2, t.3, inr (omega arith, t.4)))

-- after any number of texts of the part that is repeated
abbrev pub Again : (List ℕ → Type 0) → Expression → List ℕ → Type 0
Again K a u = Then K (IsJoin (Matches a)) u

pub only_again : (K : List ℕ → Type 0) (a : Expression) (marks : List Bool) (o : ℕ) (u : List ℕ) → Only (λ q. Then K (Then (IsJoin (Matches a)) (CanStandAt a q))) (positions a) marks o u
    → Only (Stands (Again K a) a) (positions a) marks o u
only_again K a marks o u h q lt m = then_left K (IsJoin (Matches a)) (CanStandAt a q) u (h q lt m)

pub every_again : (K : List ℕ → Type 0) (a : Expression) (marks : List Bool) (o : ℕ) (u : List ℕ) → Every (λ q. Then K (Then (IsJoin (Matches a)) (CanStandAt a q))) (positions a) marks o u
    → Every (Stands (Again K a) a) (positions a) marks o u
every_again K a marks o u h q lt s = h q lt (then_right K (IsJoin (Matches a)) (CanStandAt a q) u s)

pub again_none : (K : List ℕ → Type 0) (a : Expression) (u : List ℕ) → K u → Again K a u
again_none K a u k = (u, [], sym (append-nil u), k, join_none (Matches a))

pub again_more : (K : List ℕ → Type 0) (a : Expression) (u : List ℕ) → Then (Again K a) (Matches a) u → Again K a u
again_more K a u h =
    let t = then_right K (IsJoin (Matches a)) (Matches a) u h in
    let s = t.4 in
    (t.0, t.1, t.2, t.3, subst (IsJoin (Matches a)) (sym s.2) (join_more (Matches a) s.0 s.1 s.3 s.4))

again_plus : (K : List ℕ → Type 0) (a : Expression) (u : List ℕ) → Then (Again K a) (Matches a) u → Then K (IsNonemptyJoin (Matches a)) u
again_plus K a u h =
    let t = then_right K (IsJoin (Matches a)) (Matches a) u h in
    let s = t.4 in
    (t.0, t.1, t.2, t.3, subst (IsNonemptyJoin (Matches a)) (sym s.2) (nonempty_join (Matches a) s.0 s.1 s.3 s.4))

literal_sound : (K : List ℕ → Type 0) (marks : List Bool) (o : ℕ) (start : Bool) (xs u : List ℕ) → (start ≡ true → K u)
    → Only (InRest K xs) (length xs) marks o u → literal_end marks o start xs ≡ true → Then K (Is xs) u
literal_sound K marks o start [] u k h e = (u, [], sym (append-nil u), k e, refl)
literal_sound K marks o start (d ∷ ds) u k h e =
    let t = literal_sound (Then K (Is (d ∷ []))) marks (o + 1) (mark marks o) ds u (only_start K marks o d ds u h) (only_rest K marks o d ds u h) e in
    let s = then_right K (Is (d ∷ [])) (Is ds) u t in
    let x = s.4 in
    (s.0, s.1, s.2, s.3, x.2 ∙ ap (λ y. y ++ x.1) x.3 ∙ ap (λ y. d ∷ y) x.4)

pub ends_sound : (e : Expression) (K : List ℕ → Type 0) (marks : List Bool) (o : ℕ) (start : Bool) (u : List ℕ) → (start ≡ true → K u)
    → Only (Stands K e) (positions e) marks o u → ends marks o start e ≡ true → Then K (Matches e) u
ends_sound (Literal v) K marks o start u k h e = literal_sound K marks o start v.items u k h e
ends_sound (Class negated v) K marks o start u k h e = let s = h 0 (omega arith) (mark_moved marks o (o + 0) (omega arith) e) in let t = s.4 in (s.0, s.1, s.2, s.3, t.1)
ends_sound (Sequence' i a j b) K marks o start u k h e =
    let second = ends_sound b (Then K (Matches a)) marks (o + positions a) (ends marks o start a) u
    (ends_sound a K marks o start u k (only_first K a b i j marks o u h)) (only_second K a b i j marks o u h) e in
    then_right K (Matches a) (Matches b) u second
ends_sound (Choice' i a j b) K marks o start u k h e = elim (or_cases (ends marks o start a) (ends marks (o + positions a) start b) e) [
  | inl x ↦ let t = ends_sound a K marks o start u k (only_one K a b i j marks o u h) x in (t.0, t.1, t.2, t.3, inl t.4)
  | inr x ↦ let t = ends_sound b K marks (o + positions a) start u k (only_other K a b i j marks o u h) x in (t.0, t.1, t.2, t.3, inr t.4)
]
ends_sound (Star' i a) K marks o start u k h e = elim (or_cases (ends marks o start a) start e) [
  | inl x ↦ again_more K a u (ends_sound a (Again K a) marks o start u (λ s. again_none K a u (k s)) (only_again K a marks o u h) x)
  | inr x ↦ again_none K a u (k x)
]
ends_sound (Plus' i a) K marks o start u k h e = again_plus K a u (ends_sound a (Again K a) marks o start u (λ s. again_none K a u (k s)) (only_again K a marks o u h) e)
ends_sound (Optional' i a) K marks o start u k h e = elim (or_cases (ends marks o start a) start e) [
  | inl x ↦ let t = ends_sound a K marks o start u k h x in (t.0, t.1, t.2, t.3, inr t.4)
  | inr x ↦ (u, [], sym (append-nil u), k x, inl refl)
]

literal_complete : (K : List ℕ → Type 0) (marks : List Bool) (o : ℕ) (start : Bool) (xs u v : List ℕ) → Every (InRest K xs) (length xs) marks o u
    → u ≡ v ++ xs → K v → (xs ≡ [] → start ≡ true) → literal_end marks o start xs ≡ true
literal_complete K marks o start [] u v h e k s = s refl
literal_complete K marks o start (d ∷ ds) u v h e k s =
    literal_complete (Then K (Is (d ∷ []))) marks (o + 1) (mark marks o) ds u (v ++ d ∷ []) (every_rest K marks o d ds u h) (e ∙ sym (append_assoc v (d ∷ []) ds)) (v, d ∷ [], refl, k, refl)
    (λ none. every_start K marks o d ds u h (v, d ∷ [], e ∙ ap (λ x. v ++ (d ∷ x)) none, k, refl))

nil_parts : (x y : List ℕ) → x ++ y ≡ [] → (x ≡ []) × (y ≡ [])
nil_parts [] y e = (refl, e)
nil_parts (c ∷ x) y e = cc

pub ends_complete : (e : Expression) (K : List ℕ → Type 0) (marks : List Bool) (o : ℕ) (start : Bool) (u v w : List ℕ) → Every (Stands K e) (positions e) marks o u
    → u ≡ v ++ w → K v → Matches e w → (w ≡ [] → start ≡ true) → ends marks o start e ≡ true
ends_complete (Literal c) K marks o start u v w h e k m s = literal_complete K marks o start c.items u v h (e ∙ ap (λ x. v ++ x) m) k (λ none. s (m ∙ none))
ends_complete (Class negated c) K marks o start u v w h e k m s = mark_moved marks (o + 0) o (omega arith) (h 0 (omega arith) (v, w, e, k, (refl, m)))
ends_complete (Sequence' i a j b) K marks o start u v w h e k m s =
    let whole : u ≡ (v ++ m.0) ++ m.1 = e ∙ ap (λ x. v ++ x) m.2 ∙ sym (append_assoc v m.0 m.1) in
    ends_complete b (Then K (Matches a)) marks (o + positions a) (ends marks o start a) u (v ++ m.0) m.1 (every_second K a b i j marks o u h) whole (v, m.0, refl, k, m.3) m.4
    (λ none. ends_complete a K marks o start u v m.0 (every_first K a b i j marks o u h) (whole ∙ ap (λ x. (v ++ m.0) ++ x) none ∙ append-nil (v ++ m.0)) k m.3
    (λ empty. s (m.2 ∙ ap (λ x. x ++ m.1) empty ∙ none)))
ends_complete (Choice' i a j b) K marks o start u v w h e k (inl m) s = or_left (ends marks o start a) (ends marks (o + positions a) start b)
    (ends_complete a K marks o start u v w (every_one K a b i j marks o u h) e k m s)
ends_complete (Choice' i a j b) K marks o start u v w h e k (inr m) s = or_right (ends marks o start a) (ends marks (o + positions a) start b)
    (ends_complete b K marks (o + positions a) start u v w (every_other K a b i j marks o u h) e k m s)
ends_complete (Star' i a) K marks o start u v w h e k m s = elim (last_part (Matches a) m.0 w m.1 m.2) [
  | inl none ↦ or_right (ends marks o start a) start (s none)
  | inr l ↦ or_left (ends marks o start a) start (ends_complete a (Again K a) marks o start u (v ++ l.0) l.1 (every_again K a marks o u h)
      (e ∙ ap (λ x. v ++ x) l.2 ∙ sym (append_assoc v l.0 l.1)) (v, l.0, refl, k, l.3) l.4 (λ none. let n : length l.1 ≡ 0 = ap length none in absurd (omega (arith, n, l.5))))
]
ends_complete (Plus' i a) K marks o start u v w h e k ([], some, all, is) s = absurd (some refl)
ends_complete (Plus' i a) K marks o start u v w h e k (p ∷ parts, some, all, is) s = elim (last_part (Matches a) (p ∷ parts) w all is) [
  | inl none ↦
      let empty = nil_parts p (concat parts) (sym is ∙ none) in
      let m : Matches a [] = subst (Matches a) empty.0 all.0 in
      ends_complete a (Again K a) marks o start u v [] (every_again K a marks o u h) (e ∙ ap (λ x. v ++ x) none) (again_none K a v k) m (λ z. s none)
  | inr l ↦ ends_complete a (Again K a) marks o start u (v ++ l.0) l.1 (every_again K a marks o u h) (e ∙ ap (λ x. v ++ x) l.2 ∙ sym (append_assoc v l.0 l.1))
      (v, l.0, refl, k, l.3) l.4 (λ none. let n : length l.1 ≡ 0 = ap length none in absurd (omega (arith, n, l.5)))
]
ends_complete (Optional' i a) K marks o start u v w h e k (inl none) s = or_right (ends marks o start a) start (s none)
ends_complete (Optional' i a) K marks o start u v w h e k (inr m) s = or_left (ends marks o start a) start (ends_complete a K marks o start u v w h e k m s)
