-- A nonempty text begins a text of an expression exactly where its last character can stand in it.
use Rattle.dfa.proofs.Std.{◌≡◌, ℕ, ◌+◌, ◌-◌, ◌≤◌, ◌⊎◌, List, [], ◌∷◌, ◌++◌, length, take, drop, refl, sym, ap, ◌∙◌, subst, inl, inr, arith, concat, AllByRecursion, append-nil, append_assoc, length-append, take_at}
use Rattle.dfa.proofs.Common.{Expression, Literal, Class, Sequence', Choice', Star', Plus', Optional', Matches, IsPrefix, IsJoin, IsNonemptyJoin, IsWellMade, positions, Then, CanStandAt}
use Rattle.std.proofs.Common.{take-append-drop}
use Rattle.dfa.proofs.LastPositions.{join_none, join_first, join_more, nonempty_join}

-- a well-made expression has a text
some_text : (e : Expression) → IsWellMade e → (w : List ℕ) × Matches e w
some_text (Literal v) h = (v.items, refl)
some_text (Class negated v) h = let m = h.1 in (m.0 ∷ [], (m.0, refl, m.1, m.2))
some_text (Sequence' i a j b) h = let x = some_text a h.0 in let y = some_text b h.1 in (x.0 ++ y.0, (x.0, y.0, refl, x.1, y.1))
some_text (Choice' i a j b) h = let x = some_text a h.0 in (x.0, inl x.1)
some_text (Star' i a) h = ([], join_none (Matches a))
some_text (Plus' i a) h = let x = some_text a h in (x.0, subst (IsNonemptyJoin (Matches a)) refl (nonempty_join (Matches a) [] x.0 (join_none (Matches a)) x.1))
some_text (Optional' i a) h = ([], inl refl)

pub prefix_of : (e : Expression) (p : ℕ) (u : List ℕ) → IsWellMade e → CanStandAt e p u → IsPrefix e u
prefix_of (Literal v) p u s h = (drop (p + 1) v.items, ap (λ x. x ++ drop (p + 1) v.items) h.1 ∙ take-append-drop (p + 1) v.items)
prefix_of (Class negated v) p u s h = let m = h.1 in ([], (m.0, append-nil u ∙ m.1, m.2, m.3))
prefix_of (Sequence' i a j b) p u s (inl h) =
    let x = prefix_of a p u s.0 h in
    let y = some_text b s.1 in
    (x.0 ++ y.0, (u ++ x.0, y.0, sym (append_assoc u x.0 y.0), x.1, y.1))
prefix_of (Sequence' i a j b) p u s (inr h) =
    let t = h.1 in
    let y = prefix_of b (p - positions a) t.1 s.1 t.4 in
    (y.0, (t.0, t.1 ++ y.0, ap (λ x. x ++ y.0) t.2 ∙ append_assoc t.0 t.1 y.0, t.3, y.1))
prefix_of (Choice' i a j b) p u s (inl h) = let x = prefix_of a p u s.0 h in (x.0, inl x.1)
prefix_of (Choice' i a j b) p u s (inr h) = let x = prefix_of b (p - positions a) u s.1 h.1 in (x.0, inr x.1)
prefix_of (Star' i a) p u s h =
    let x = prefix_of a p h.1 s h.4 in
    (x.0, subst (IsJoin (Matches a)) (sym (ap (λ y. y ++ x.0) h.2 ∙ append_assoc h.0 h.1 x.0)) (join_more (Matches a) h.0 (h.1 ++ x.0) h.3 x.1))
prefix_of (Plus' i a) p u s h =
    let x = prefix_of a p h.1 s h.4 in
    (x.0, subst (IsNonemptyJoin (Matches a)) (sym (ap (λ y. y ++ x.0) h.2 ∙ append_assoc h.0 h.1 x.0)) (nonempty_join (Matches a) h.0 (h.1 ++ x.0) h.3 x.1))
prefix_of (Optional' i a) p u s h = let x = prefix_of a p u s h in (x.0, inr x.1)

-- a prefix of a join lies in its first part, or goes past it
abbrev Split : List ℕ → List ℕ → List ℕ → List ℕ → Type 0
Split u r x y = ((z : List ℕ) × (x ≡ u ++ z)) ⊎ ((z : List ℕ) × (u ≡ x ++ z) × (y ≡ z ++ r) × (1 ≤ length z))

split : (u r x y : List ℕ) → u ++ r ≡ x ++ y → Split u r x y
split [] r x y e = inl (x, refl)
split (c ∷ u) r [] y e = inr (c ∷ u, refl, sym e, omega arith)
split (c ∷ u) r (d ∷ x) y e =
    let p : c ≡ d = cc in
    let q : u ++ r ≡ x ++ y = cc in
    elim (split u r x y q) [
      | inl h ↦ let f = h.1 in inl (h.0, (cc))
      | inr h ↦ let f = h.1 in inr (h.0, (cc), h.2, h.3)
    ]

module _ (L : List ℕ → Type 0) (S : ℕ → List ℕ → Type 0) (one : (u r : List ℕ) → L (u ++ r) → 1 ≤ length u → (p : ℕ) × S p u) where
  in_part : (parts : List (List ℕ)) (u r : List ℕ) → AllByRecursion L parts → u ++ r ≡ concat parts → 1 ≤ length u → (p : ℕ) × Then (IsJoin L) (S p) u
  in_part [] [] r all e some = absurd (omega (arith, some))
  in_part [] (c ∷ u) r all e some = cc
  in_part (x ∷ parts) u r all e some = elim (split u r x (concat parts) e) [
    | inl h ↦
        let s = one u h.0 (subst L h.1 all.0) some in
        (s.0, ([], u, refl, join_none L, s.1))
    | inr h ↦
        let s = in_part parts h.0 r all.1 (sym h.2) h.3 in
        let t = s.1 in
        (s.0, (x ++ t.0, t.1, h.1 ∙ ap (λ y. x ++ y) t.2 ∙ sym (append_assoc x t.0 t.1), join_first L x t.0 all.0 t.3, t.4))
  ]

moved : (b : Expression) (n p : ℕ) (w : List ℕ) → CanStandAt b p w → CanStandAt b (n + p - n) w
moved b n p w h = let e : p ≡ n + p - n = omega arith in subst (λ (q : ℕ). CanStandAt b q w) e h

pub stand_of : (e : Expression) (u : List ℕ) → IsPrefix e u → 1 ≤ length u → (p : ℕ) × CanStandAt e p u
stand_of (Literal v) u h some =
    let e : u ++ h.0 ≡ v.items = h.1 in
    let n : length v.items ≡ length u + length h.0 = sym (ap length e) ∙ length-append u h.0 in
    let m : length u - 1 + 1 ≡ length u = omega arith in
    let t : take (length u) v.items ≡ u = ap (take (length u)) (sym e) ∙ take_at u h.0 (length u) refl in
    (length u - 1, (omega (arith, n, some), sym (ap (λ k. take k v.items) m ∙ t)))
stand_of (Class negated v) [] h some = absurd (omega (arith, some))
stand_of (Class negated v) (c ∷ []) h some = let m = h.1 in let e = m.1 in (0, (refl, (m.0, (cc), m.2, m.3)))
stand_of (Class negated v) (c ∷ (d ∷ u)) h some = let m = h.1 in let e = m.1 in cc
stand_of (Sequence' i a j b) u h some =
    let m = h.1 in
    elim (split u h.0 m.0 m.1 m.2) [
      | inl x ↦ let s = stand_of a u (x.0, subst (Matches a) x.1 m.3) some in (s.0, inl s.1)
      | inr x ↦
          let s = stand_of b x.0 (h.0, subst (Matches b) x.2 m.4) x.3 in
          (positions a + s.0, inr (omega arith, (m.0, x.0, x.1, m.3, moved b (positions a) s.0 x.0 s.1)))
    ]
stand_of (Choice' i a j b) u h some = elim (h.1) [
  | inl m ↦ let s = stand_of a u (h.0, m) some in (s.0, inl s.1)
  | inr m ↦ let s = stand_of b u (h.0, m) some in (positions a + s.0, inr (omega arith, moved b (positions a) s.0 u s.1))
]
stand_of (Star' i a) u h some =
    let j = h.1 in
    in_part (Matches a) (CanStandAt a) (λ w r m some. stand_of a w (r, m) some) j.0 u h.0 j.1 j.2 some
stand_of (Plus' i a) u h some =
    let j = h.1 in
    in_part (Matches a) (CanStandAt a) (λ w r m some. stand_of a w (r, m) some) j.0 u h.0 j.2 j.3 some
stand_of (Optional' i a) u h some = elim (h.1) [
  | inl e ↦ let n : length u + length h.0 ≡ 0 = sym (length-append u h.0) ∙ ap length e in absurd (omega (arith, n, some))
  | inr m ↦ stand_of a u (h.0, m) some
]
