-- Where the last character of a text can stand in an expression that begins after certain texts.
use Rattle.dfa.proofs.Std.{◌≡◌, ℕ, ◌+◌, ◌-◌, ◌<◌, ◌≤◌, ◌⊎◌, List, [], ◌∷◌, ◌++◌, length, take, refl, sym, ap, ◌∙◌, inl, inr, arith, concat, AllByRecursion, append-nil, append_assoc, length-append, length-take-le}
use Rattle.dfa.proofs.Common.{Expression, Literal, Class, Sequence', Choice', Star', Plus', Optional', Matches, IsJoin, IsNonemptyJoin, positions, Then, CanStandAt}

-- the expression begins after a text of K, and the last character of u can stand at position q
abbrev pub Stands : (List ℕ → Type 0) → Expression → ℕ → List ℕ → Type 0
Stands K e q u = Then K (CanStandAt e q) u

-- the same for a literal with these characters
abbrev pub InLiteral : List ℕ → ℕ → List ℕ → Type 0
InLiteral xs q w = (q < length xs) × (w ≡ take (q + 1) xs)

abbrev pub Is : List ℕ → List ℕ → Type 0
Is x w = w ≡ x

pub then_left : (K L M : List ℕ → Type 0) (u : List ℕ) → Then K (Then L M) u → Then (Then K L) M u
then_left K L M u h =
    let t = h.4 in
    (h.0 ++ t.0, t.1, h.2 ∙ ap (λ x. h.0 ++ x) t.2 ∙ sym (append_assoc h.0 t.0 t.1), (h.0, t.0, refl, h.3, t.3), t.4)

pub then_right : (K L M : List ℕ → Type 0) (u : List ℕ) → Then (Then K L) M u → Then K (Then L M) u
then_right K L M u h =
    let t = h.3 in
    (t.0, t.1 ++ h.1, h.2 ∙ ap (λ x. x ++ h.1) t.2 ∙ append_assoc t.0 t.1 h.1, t.3, (t.1, h.1, refl, t.4, h.4))

pub below : (e : Expression) (q : ℕ) (u : List ℕ) → CanStandAt e q u → q < positions e
below (Literal v) q u h = h.0
below (Class negated v) q u h = omega (arith, h.0)
below (Sequence' i a j b) q u (inl h) = omega (arith, below a q u h)
below (Sequence' i a j b) q u (inr h) = omega (arith, h.0, below b (q - positions a) h.1.1 h.1.4)
below (Choice' i a j b) q u (inl h) = omega (arith, below a q u h)
below (Choice' i a j b) q u (inr h) = omega (arith, h.0, below b (q - positions a) u h.1)
below (Star' i a) q u h = below a q h.1 h.4
below (Plus' i a) q u h = below a q h.1 h.4
below (Optional' i a) q u h = below a q u h

pub nonempty : (e : Expression) (q : ℕ) (u : List ℕ) → CanStandAt e q u → 1 ≤ length u
nonempty (Literal v) q u h =
    let m : length (take (q + 1) v.items) ≡ q + 1 = length-take-le (q + 1) v.items (omega (arith, h.0)) in
    rw h.1 (omega arith)
nonempty (Class negated v) q u h = rw h.1.1 (omega arith)
nonempty (Sequence' i a j b) q u (inl h) = nonempty a q u h
nonempty (Sequence' i a j b) q u (inr h) = let t = h.1 in rw t.2 (omega (arith, length-append t.0 t.1, nonempty b (q - positions a) t.1 t.4))
nonempty (Choice' i a j b) q u (inl h) = nonempty a q u h
nonempty (Choice' i a j b) q u (inr h) = nonempty b (q - positions a) u h.1
nonempty (Star' i a) q u h = rw h.2 (omega (arith, length-append h.0 h.1, nonempty a q h.1 h.4))
nonempty (Plus' i a) q u h = rw h.2 (omega (arith, length-append h.0 h.1, nonempty a q h.1 h.4))
nonempty (Optional' i a) q u h = nonempty a q u h

module _ (L : List ℕ → Type 0) where
  pub join_none : IsJoin L []
  join_none = ([], tt, refl)

  all_more : (parts : List (List ℕ)) (x : List ℕ) → AllByRecursion L parts → L x → AllByRecursion L (parts ++ x ∷ [])
  all_more [] x h l = (l, tt)
  all_more (p ∷ parts) x h l = (h.0, all_more parts x h.1 l)

  concat_more : (parts : List (List ℕ)) (x : List ℕ) → concat (parts ++ x ∷ []) ≡ concat parts ++ x
  concat_more [] x = append-nil x
  concat_more (p ∷ parts) x = ap (λ y. p ++ y) (concat_more parts x) ∙ sym (append_assoc p (concat parts) x)

  pub join_more : (v x : List ℕ) → IsJoin L v → L x → IsJoin L (v ++ x)
  join_more v x j l = (j.0 ++ x ∷ [], all_more j.0 x j.1 l, ap (λ y. y ++ x) j.2 ∙ sym (concat_more j.0 x))

  pub join_first : (x v : List ℕ) → L x → IsJoin L v → IsJoin L (x ++ v)
  join_first x v l j = (x ∷ j.0, (l, j.1), ap (λ y. x ++ y) j.2)

  more_parts : (parts : List (List ℕ)) (x : List ℕ) → parts ++ x ∷ [] ≡ [] → ⊥
  more_parts [] x e = cc
  more_parts (p ∷ parts) x e = cc

  pub nonempty_join : (v x : List ℕ) → IsJoin L v → L x → IsNonemptyJoin L (v ++ x)
  nonempty_join v x j l = (j.0 ++ x ∷ [], more_parts j.0 x, all_more j.0 x j.1 l, ap (λ y. y ++ x) j.2 ∙ sym (concat_more j.0 x))

  -- a join is empty, or ends with a part that is not
  abbrev pub LastPart : List ℕ → Type 0
  LastPart w = (w ≡ []) ⊎ ((v x : List ℕ) × (w ≡ v ++ x) × IsJoin L v × L x × (1 ≤ length x))

  before_last : (x y w : List ℕ) → L x → LastPart y → w ≡ x ++ y → LastPart w
  before_last [] y w l (inl e) is = inl (is ∙ e)
  before_last (c ∷ x) y w l (inl e) is = inr ([], c ∷ x, is ∙ ap (λ z. (c ∷ x) ++ z) e ∙ append-nil (c ∷ x), join_none, l, omega arith)
  before_last x y w l (inr h) is = inr (x ++ h.0, h.1, is ∙ ap (λ z. x ++ z) h.2 ∙ sym (append_assoc x h.0 h.1), join_first x h.0 l h.3, h.4, h.5)

  pub last_part : (parts : List (List ℕ)) (w : List ℕ) → AllByRecursion L parts → w ≡ concat parts → LastPart w
  last_part [] w all e = inl e
  last_part (x ∷ parts) w all e = before_last x (concat parts) w all.0 (last_part parts (concat parts) all.1 refl) e

-- a place in a sequence is one in its first part, or one in its second after the first
pub sequence_first : (K : List ℕ → Type 0) (a b : Expression) (i j : _) (q : ℕ) (u : List ℕ) → Stands K a q u → Stands K (Sequence' i a j b) q u
sequence_first K a b i j q u h = (h.0, h.1, h.2, h.3, inl h.4)

pub sequence_second : (K : List ℕ → Type 0) (a b : Expression) (i j : _) (q : ℕ) (u : List ℕ) → positions a ≤ q → Stands (Then K (Matches a)) b (q - positions a) u → Stands K (Sequence' i a j b) q u
sequence_second K a b i j q u le h =
    let t = then_right K (Matches a) (CanStandAt b (q - positions a)) u h in
    (t.0, t.1, t.2, t.3, inr (le, t.4))

pub sequence_cases : (K : List ℕ → Type 0) (a b : Expression) (i j : _) (q : ℕ) (u : List ℕ) → Stands K (Sequence' i a j b) q u
    → Stands K a q u ⊎ ((positions a ≤ q) × Stands (Then K (Matches a)) b (q - positions a) u)
sequence_cases K a b i j q u (v, w, e, k, inl h) = inl (v, w, e, k, h)
sequence_cases K a b i j q u (v, w, e, k, inr h) = inr (h.0, then_left K (Matches a) (CanStandAt b (q - positions a)) u (v, w, e, k, h.1))

pub choice_cases : (K : List ℕ → Type 0) (a b : Expression) (i j : _) (q : ℕ) (u : List ℕ) → Stands K (Choice' i a j b) q u → Stands K a q u ⊎ ((positions a ≤ q) × Stands K b (q - positions a) u)
choice_cases K a b i j q u (v, w, e, k, inl h) = inl (v, w, e, k, h)
choice_cases K a b i j q u (v, w, e, k, inr h) = inr (h.0, (v, w, e, k, h.1))
