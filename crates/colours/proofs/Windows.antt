-- The parts on some lines of what stands between two positions are those between the nearest positions on these lines.
use Rattle.colours.proofs.Std.{◌++◌, ◌+◌, ◌-◌, ◌<◌, ◌≤◌, ◌≡◌, ◌∙◌, ◌∷◌, ◌⊎◌, ◌==◌, ◌&&◌, Bool, List, None, Option, Some, [], ap, cond, false, filter, inl, inr, map, nat_le, nat_lt, refl, subst, suc, sym, true, zero, ℕ, range_with_len}
use Rattle.colours.proofs.Std.{arith, le-leb, cases_lt, lt-ltb, le-ltb, lt-leb, eq-eqb, eqb-true, append-nil, ltb-true, ltb-false, filter-append, map-append}
use Rattle.colours.proofs.Common.{Position, Encoding, IsUpTo, not_above, not_below, Part, line_end, part_on, parts_between, parts_in, within}

abbrev pub is_some : Part → Bool
is_some part = nat_lt 0 part.length

abbrev pub is_on : ℕ → ℕ → Part → Bool
is_on lo hi part = nat_le lo part.line && nat_lt part.line hi

-- ---- two tests of the parts of lines

pub dropped : (w n : Part → Bool) (x : Part) → w x ≡ false → filter w (filter n (x ∷ [])) ≡ []
dropped w n x e = go (n x)
  where
    go : (b : Bool) → filter w (cond b (x ∷ []) []) ≡ []
    go false = refl
    go true = ap (λ b. cond b (x ∷ []) []) e

kept : (w n : Part → Bool) (x : Part) → w x ≡ true → filter w (filter n (x ∷ [])) ≡ filter n (x ∷ [])
kept w n x e = go (n x)
  where
    go : (b : Bool) → filter w (cond b (x ∷ []) []) ≡ cond b (x ∷ []) []
    go false = refl
    go true = ap (λ b. cond b (x ∷ []) []) e

split : (w n : Part → Bool) (xs ys : List Part) → filter w (filter n (xs ++ ys)) ≡ filter w (filter n xs) ++ filter w (filter n ys)
split w n xs ys = ap (filter w) (filter-append n xs ys) ∙ filter-append w (filter n xs) (filter n ys)

pub all_dropped : (w n : Part → Bool) (p : ℕ → Part) (a k : ℕ) → ((l : ℕ) → a ≤ l → l < a + k → filter w (filter n (p l ∷ [])) ≡ [])
    → filter w (filter n (map p (range_with_len a k))) ≡ []
all_dropped w n p a zero h = refl
all_dropped w n p a (suc k) h =
    let rest : List Part = map p (range_with_len (a + 1) k) in
    split w n (p a ∷ []) rest ∙ ap (λ xs. xs ++ filter w (filter n rest)) (h a (omega arith) (omega arith))
    ∙ all_dropped w n p (a + 1) k (λ l from to. h l (omega arith) (omega arith))

all_same : (w n : Part → Bool) (p q : ℕ → Part) (a k : ℕ) → ((l : ℕ) → a ≤ l → l < a + k → filter w (filter n (p l ∷ [])) ≡ filter n (q l ∷ []))
    → filter w (filter n (map p (range_with_len a k))) ≡ filter n (map q (range_with_len a k))
all_same w n p q a zero h = refl
all_same w n p q a (suc k) h =
    let rest : List Part = map p (range_with_len (a + 1) k) in
    let others : List Part = map q (range_with_len (a + 1) k) in
    split w n (p a ∷ []) rest ∙ ap (λ xs. xs ++ filter w (filter n rest)) (h a (omega arith) (omega arith))
    ∙ ap (λ xs. filter n (q a ∷ []) ++ xs) (all_same w n p q (a + 1) k (λ l from to. h l (omega arith) (omega arith)))
    ∙ sym (filter-append n (q a ∷ []) others)

range_split : (a m n : ℕ) → range_with_len a (m + n) ≡ range_with_len a m ++ range_with_len (a + m) n
range_split a zero n =
    let none : 0 + n ≡ n = omega arith in
    let here : a ≡ a + 0 = omega arith in
    ap (range_with_len a) none ∙ ap (λ b. range_with_len b n) here
range_split a (suc m) n =
    let more : suc m + n ≡ suc (m + n) = omega arith in
    let there : a + 1 + m ≡ a + suc m = omega arith in
    ap (range_with_len a) more ∙ ap (λ xs. a ∷ xs) (range_split (a + 1) m n) ∙ ap (λ b. a ∷ (range_with_len (a + 1) m ++ range_with_len b n)) there

map_split : (p : ℕ → Part) (a m n : ℕ) → map p (range_with_len a (m + n)) ≡ map p (range_with_len a m) ++ map p (range_with_len (a + m) n)
map_split p a m n = ap (map p) (range_split a m n) ∙ map-append p (range_with_len a m) (range_with_len (a + m) n)

-- ---- whether a line is one of those

on : (l lo hi : ℕ) → lo ≤ l → l < hi → (nat_le lo l && nat_lt l hi) ≡ true
on l lo hi a b = (λ i. le-leb lo l a i && lt-ltb l hi b i)

pub off : (l lo hi : ℕ) → (l < lo) ⊎ (hi ≤ l) → (nat_le lo l && nat_lt l hi) ≡ false
off l lo hi (inl a) = ap (λ b. b && nat_lt l hi) (lt-leb lo l a)
off l lo hi (inr a) = ap (λ b. nat_le lo l && b) (le-ltb l hi a) ∙ never (nat_le lo l)
  where
    never : (b : Bool) → (b && false) ≡ false
    never true = refl
    never false = refl

-- ---- the nearest positions

abbrev Above : ℕ → Position → Position → Type 0
Above l p q = (l ≤ p.line) × (q ≡ p) ⊎ (p.line < l) × (q ≡ record { line = l; character = 0 })

abbrev Below : ℕ → Position → Position → Type 0
Below l p q = (p.line < l) × (q ≡ p) ⊎ (l ≤ p.line) × (q ≡ record { line = l; character = 0 })

pub above : (l : ℕ) (p : Position) → Above l p (not_above l p)
above l p = go (nat_lt p.line l) refl
  where
    go : (b : Bool) → nat_lt p.line l ≡ b → Above l p (cond b (record { line = l; character = 0 }) p)
    go true e = inr (ltb-true _ _ e, refl)
    go false e = inl (ltb-false _ _ e, refl)

pub below : (l : ℕ) (p : Position) → Below l p (not_below l p)
below l p = go (nat_lt p.line l) refl
  where
    go : (b : Bool) → nat_lt p.line l ≡ b → Below l p (cond b p (record { line = l; character = 0 }))
    go true e = inl (ltb-true _ _ e, refl)
    go false e = inr (ltb-false _ _ e, refl)

pub differ : (a b : ℕ) → (a < b) ⊎ (b < a) → (a == b) ≡ false
differ a b h = go (a == b) refl h
  where
    go : (c : Bool) → (a == b) ≡ c → (a < b) ⊎ (b < a) → c ≡ false
    go false e h = refl
    go true e (inl l) = absurd (omega (arith, eqb-true a b e))
    go true e (inr l) = absurd (omega (arith, eqb-true a b e))

-- a line has the same start from the nearest position
start_same : (lo : ℕ) (from s : Position) (l : ℕ) → Above lo from s → s.line ≤ l → cond (l == from.line) from.character 0 ≡ cond (l == s.line) s.character 0
start_same lo from s l (inl h) low = ap (λ (p : Position). cond (l == p.line) p.character 0) (sym h.1)
start_same lo from s l (inr h) low =
    let far : lo ≤ l = subst (λ (p : Position). p.line ≤ l) h.1 low in
    ap (λ b. cond b from.character 0) (differ l from.line (inr (omega (arith, h.0)))) ∙ sym (ap (λ (p : Position). cond (l == p.line) p.character 0) h.1 ∙ none (l == lo) 0)
  where
    none : (b : Bool) (z : ℕ) → cond b z z ≡ z
    none true z = refl
    none false z = refl

module _ (encoding : Encoding) (t : List ℕ) (colour : ℕ) (from to s e : Position) (lo hi : ℕ) (up : IsUpTo from to) (begins : from.line < hi)
    (first : Above lo from s) (last : Below hi to e) where
  abbrev here : ℕ → Part
  here = part_on encoding t colour from to

  abbrev there : ℕ → Part
  there = part_on encoding t colour s e

  at_least : (l : ℕ) → s.line ≤ l → lo ≤ l
  at_least l low = go first
    where
      go : Above lo from s → lo ≤ l
      go (inl h) = omega (arith, h.0, subst (λ (p : Position). p.line ≤ l) h.1 low)
      go (inr h) = subst (λ (p : Position). p.line ≤ l) h.1 low

  starts : from.line ≤ s.line
  starts = go first
    where
      go : Above lo from s → from.line ≤ s.line
      go (inl h) = subst (λ (p : Position). from.line ≤ p.line) (sym h.1) (omega arith)
      go (inr h) = subst (λ (p : Position). from.line ≤ p.line) (sym h.1) (omega (arith, h.0))

  ends : e.line ≤ to.line
  ends = go last
    where
      go : Below hi to e → e.line ≤ to.line
      go (inl h) = subst (λ (p : Position). p.line ≤ to.line) (sym h.1) (omega arith)
      go (inr h) = subst (λ (p : Position). p.line ≤ to.line) (sym h.1) h.0

  -- the lines of these before `s` are above the first one, and those after `e` below the last one
  in_front : (l : ℕ) → from.line ≤ l → l < s.line → l < lo
  in_front l low high = go first
    where
      go : Above lo from s → l < lo
      go (inl h) = absurd (omega (arith, low, subst (λ (p : Position). l < p.line) h.1 high))
      go (inr h) = subst (λ (p : Position). l < p.line) h.1 high

  behind : (l : ℕ) → e.line < l → l ≤ to.line → hi ≤ l
  behind l low high = go last
    where
      go : Below hi to e → hi ≤ l
      go (inl h) = absurd (omega (arith, high, subst (λ (p : Position). p.line < l) h.1 low))
      go (inr h) = omega (arith, subst (λ (p : Position). p.line < l) h.1 low)

  end_same : (l : ℕ) → l < hi → cond (l == to.line) to.character (line_end encoding t l) ≡ cond (l == e.line) e.character (line_end encoding t l)
  end_same l near = go last
    where
      go : Below hi to e → cond (l == to.line) to.character (line_end encoding t l) ≡ cond (l == e.line) e.character (line_end encoding t l)
      go (inl h) = ap (λ (p : Position). cond (l == p.line) p.character (line_end encoding t l)) (sym h.1)
      go (inr h) = ap (λ b. cond b to.character (line_end encoding t l)) (differ l to.line (inl (omega (arith, h.0, near))))
          ∙ sym (ap (λ (p : Position). cond (l == p.line) p.character (line_end encoding t l)) h.1 ∙ ap (λ b. cond b 0 (line_end encoding t l)) (differ l hi (inl near)))

  part_same : (l : ℕ) → s.line ≤ l → l < hi → here l ≡ there l
  part_same l low near =
      let start = start_same lo from s l first low in
      let end = end_same l near in
      λ i. record { line = l; start = start i; length = end i - start i; colour = colour; modifiers = 0 }

  -- nothing stands on the line below the last one
  nothing : (l : ℕ) → l ≤ e.line → hi ≤ l → filter is_some (there l ∷ []) ≡ []
  nothing l high far = ap (λ n. cond (nat_lt 0 n) (there l ∷ []) []) (go last)
    where
      start : ℕ
      start = cond (l == s.line) s.character 0

      go : Below hi to e → (there l).length ≡ 0
      go (inl h) = absurd (omega (arith, h.0, subst (λ (p : Position). l ≤ p.line) h.1 high))
      go (inr h) =
          let same : l ≡ hi = omega (arith, far, subst (λ (p : Position). l ≤ p.line) h.1 high) in
          ap (λ (p : Position). cond (l == p.line) p.character (line_end encoding t l) - start) h.1
          ∙ ap (λ b. cond b 0 (line_end encoding t l) - start) (eq-eqb l hi same) ∙ omega arith

  middle : (l : ℕ) → s.line ≤ l → l ≤ e.line → filter (is_on lo hi) (filter is_some (here l ∷ [])) ≡ filter is_some (there l ∷ [])
  middle l low high = go (cases_lt l hi)
    where
      go : (l < hi) ⊎ (hi ≤ l) → filter (is_on lo hi) (filter is_some (here l ∷ [])) ≡ filter is_some (there l ∷ [])
      go (inl near) = kept (is_on lo hi) is_some (here l) (on l lo hi (at_least l low) near) ∙ ap (λ x. filter is_some (x ∷ [])) (part_same l low near)
      go (inr far) = dropped (is_on lo hi) is_some (here l) (off l lo hi (inr far)) ∙ sym (nothing l high far)

  abbrev both : List Part → List Part
  both xs = filter (is_on lo hi) (filter is_some xs)

  pub within_same : s.line ≤ e.line → within lo hi (parts_between encoding t colour from to) ≡ parts_between encoding t colour s e
  within_same ordered =
      let a : ℕ = from.line in
      let before : ℕ = s.line - a in
      let inside : ℕ = e.line + 1 - s.line in
      let after : ℕ = to.line - e.line in
      let total : to.line + 1 - a ≡ before + (inside + after) = omega (arith, starts, ends, ordered) in
      let first_line : a + before ≡ s.line = omega (arith, starts) in
      let last_line : a + before + inside ≡ e.line + 1 = omega (arith, starts, ordered) in
      ap (λ n. both (map here (range_with_len a n))) total
      ∙ ap both (map_split here a before (inside + after))
      ∙ split (is_on lo hi) is_some (map here (range_with_len a before)) (map here (range_with_len (a + before) (inside + after)))
      ∙ ap (λ xs. xs ++ both (map here (range_with_len (a + before) (inside + after))))
      (all_dropped (is_on lo hi) is_some here a before (λ l low high. dropped (is_on lo hi) is_some (here l) (off l lo hi (inl (in_front l low (omega (arith, first_line)))))))
      ∙ ap both (map_split here (a + before) inside after)
      ∙ split (is_on lo hi) is_some (map here (range_with_len (a + before) inside)) (map here (range_with_len (a + before + inside) after))
      ∙ ap (λ xs. xs ++ both (map here (range_with_len (a + before + inside) after)))
      (all_same (is_on lo hi) is_some here there (a + before) inside (λ l low high. middle l (omega (arith, first_line)) (omega (arith, last_line))))
      ∙ ap (λ xs. filter is_some (map there (range_with_len (a + before) inside)) ++ xs)
      (all_dropped (is_on lo hi) is_some here (a + before + inside) after
      (λ l low high. dropped (is_on lo hi) is_some (here l) (off l lo hi (inr (behind l (omega (arith, last_line)) (omega (arith, last_line, ends)))))))
      ∙ append-nil (filter is_some (map there (range_with_len (a + before) inside)))
      ∙ ap (λ b. filter is_some (map there (range_with_len b inside))) first_line

  pub within_none : e.line < s.line → within lo hi (parts_between encoding t colour from to) ≡ []
  within_none crossed = all_dropped (is_on lo hi) is_some here from.line (to.line + 1 - from.line) (λ l low high.
      dropped (is_on lo hi) is_some (here l) (off l lo hi (out l low (omega (arith, high, up.lines)) first last)))
    where
      out : (l : ℕ) → from.line ≤ l → l ≤ to.line → Above lo from s → Below hi to e → (l < lo) ⊎ (hi ≤ l)
      out l low high (inl f) (inl g) = absurd (omega (arith, up.lines, subst (λ (p : Position). to.line < p.line) f.1 (subst (λ (p : Position). p.line < s.line) g.1 crossed)))
      out l low high (inl f) (inr g) = absurd (omega (arith, begins, subst (λ (p : Position). hi < p.line) f.1 (subst (λ (p : Position). p.line < s.line) g.1 crossed)))
      out l low high (inr f) (inl g) = inl (omega (arith, high, subst (λ (p : Position). to.line < p.line) f.1 (subst (λ (p : Position). p.line < s.line) g.1 crossed)))
      out l low high (inr f) (inr g) =
          go (subst (λ (p : Position). hi < p.line) f.1 (subst (λ (p : Position). p.line < s.line) g.1 crossed)) (cases_lt l lo)
        where
          go : hi < lo → (l < lo) ⊎ (lo ≤ l) → (l < lo) ⊎ (hi ≤ l)
          go empty (inl a) = inl a
          go empty (inr a) = inr (omega arith)

-- the same of what may have a colour
module _ (encoding : Encoding) (t : List ℕ) (from to s e : Position) (lo hi : ℕ) (up : IsUpTo from to) (begins : from.line < hi)
    (first : s ≡ not_above lo from) (last : e ≡ not_below hi to) where
  is_above : Above lo from s
  is_above = subst (λ (p : Position). Above lo from p) (sym first) (above lo from)

  is_below : Below hi to e
  is_below = subst (λ (p : Position). Below hi to p) (sym last) (below hi to)

  pub nearest : (c : Option ℕ) → s.line ≤ e.line → within lo hi (parts_in encoding t from to c) ≡ parts_in encoding t s e c
  nearest None ordered = refl
  nearest (Some colour) ordered = within_same encoding t colour from to s e lo hi up begins is_above is_below ordered

  pub nothing_near : (c : Option ℕ) → e.line < s.line → within lo hi (parts_in encoding t from to c) ≡ []
  nothing_near None crossed = refl
  nothing_near (Some colour) crossed = within_none encoding t colour from to s e lo hi up begins is_above is_below crossed
