-- Tokens that end at or before the start of a line have no part on it or below it, and those that start on a line have none above it.
use Rattle.colours.proofs.Std.{◌++◌, ◌+◌, ◌-◌, ◌<◌, ◌≤◌, ◌≡◌, ◌∙◌, ◌∷◌, ◌⊎◌, ◌==◌, Bool, List, None, Option, Some, [], ap, append_assoc, arith, cond, filter, inl, inr, length, nat_lt, refl, subst, sym, take, ℕ, cases_lt, eq-eqb, filter-append, count_by-le-length}
use Rattle.colours.proofs.Common.{break_ends, line_of, line_from, line_start, offset, position, units, position-of_offset, chars, chars-cons, PlainToken, Position, Encoding, IsUpTo, start_of, Part, colour_of, coloured_from, line_end, part_on, parts_in, within}
use Rattle.colours.proofs.PositionsAscend.{position-mono}
use Rattle.colours.proofs.Windows.{is_some, is_on, dropped, all_dropped, off}

no_units : (encoding : Encoding) (line : List ℕ) → 0 ≡ units encoding (take 0 line)
unfolding units
no_units encoding line = refl

lines_in : (t : List ℕ) (o : ℕ) → line_of t o ≤ length (break_ends 0 t)
unfolding line_of
lines_in t o = count_by-le-length _ (break_ends 0 t)

pub up_to_line : (encoding : Encoding) (t : List ℕ) (l o : ℕ) → o ≤ offset encoding t (start_of l) → IsUpTo (position encoding t o) (start_of l)
unfolding position
up_to_line encoding t l o near = go (cases_lt (length (break_ends 0 t)) l)
  where
    go : (length (break_ends 0 t) < l) ⊎ (l ≤ length (break_ends 0 t)) → IsUpTo (position encoding t o) (start_of l)
    go (inl few) = record { lines = omega (arith, lines_in t o); units = λ (same : line_of t o ≡ l). absurd (omega (arith, lines_in t o)) }
    go (inr enough) = subst (λ (q : Position). IsUpTo (position encoding t o) q)
        (position-of_offset encoding t (start_of l) (0, enough, omega arith, no_units encoding (line_from (line_start t l) t)))
        (position-mono encoding t o (offset encoding t (start_of l)) near)

no_part : (w : Part → Bool) (x : Part) → x.length ≡ 0 → filter w (filter is_some (x ∷ [])) ≡ []
no_part w x e = ap (λ n. filter w (cond (nat_lt 0 n) (x ∷ []) [])) e

-- what stands before the start of a line
part_in_front : (encoding : Encoding) (t : List ℕ) (lo hi : ℕ) (s e : Position) (c : Option ℕ) → IsUpTo e (start_of lo) → within lo hi (parts_in encoding t s e c) ≡ []
part_in_front encoding t lo hi s e None up = refl
part_in_front encoding t lo hi s e (Some colour) up =
    all_dropped (is_on lo hi) is_some (part_on encoding t colour s e) s.line (e.line + 1 - s.line) (λ l low high. go l (omega arith) (cases_lt l lo))
  where
    go : (l : ℕ) → l ≤ e.line → (l < lo) ⊎ (lo ≤ l) → filter (is_on lo hi) (filter is_some (part_on encoding t colour s e l ∷ [])) ≡ []
    go l high (inl a) = dropped (is_on lo hi) is_some (part_on encoding t colour s e l) (off l lo hi (inl a))
    go l high (inr a) =
        let here : l ≡ e.line = omega (arith, up.lines) in
        let none : e.character ≡ 0 = omega (arith, up.units) in
        no_part (is_on lo hi) (part_on encoding t colour s e l)
        (ap (λ b. cond b e.character (line_end encoding t l) - cond (l == s.line) s.character 0) (eq-eqb l e.line here)
        ∙ ap (λ n. n - cond (l == s.line) s.character 0) none ∙ omega arith)

pub all_in_front : (encoding : Encoding) (t : List ℕ) (palette : List (Option ℕ)) (lo hi o : ℕ) (xs : List PlainToken) → o + chars xs ≤ offset encoding t (start_of lo)
    → within lo hi (coloured_from encoding t palette o xs) ≡ []
all_in_front encoding t palette lo hi o [] near = refl
all_in_front encoding t palette lo hi o (x ∷ xs) near =
    let c : Option ℕ = colour_of palette x.kind in
    let others : List Part = coloured_from encoding t palette (o + x.length) xs in
    let far : o + x.length + chars xs ≤ offset encoding t (start_of lo) = omega (arith, chars-cons x xs) in
    filter-append (is_on lo hi) (parts_in encoding t (position encoding t o) (position encoding t (o + x.length)) c) others
    ∙ ap (λ ps. ps ++ within lo hi others) (part_in_front encoding t lo hi (position encoding t o) (position encoding t (o + x.length)) c
    (up_to_line encoding t lo (o + x.length) (omega arith)))
    ∙ all_in_front encoding t palette lo hi (o + x.length) xs far

-- what starts on a line
part_behind : (encoding : Encoding) (t : List ℕ) (lo hi : ℕ) (s e : Position) (c : Option ℕ) → hi ≤ s.line → within lo hi (parts_in encoding t s e c) ≡ []
part_behind encoding t lo hi s e None far = refl
part_behind encoding t lo hi s e (Some colour) far =
    all_dropped (is_on lo hi) is_some (part_on encoding t colour s e) s.line (e.line + 1 - s.line)
    (λ l low high. dropped (is_on lo hi) is_some (part_on encoding t colour s e l) (off l lo hi (inr (omega arith))))

pub all_behind : (encoding : Encoding) (t : List ℕ) (palette : List (Option ℕ)) (lo hi o : ℕ) (xs : List PlainToken) → hi ≤ (position encoding t o).line
    → within lo hi (coloured_from encoding t palette o xs) ≡ []
all_behind encoding t palette lo hi o [] far = refl
all_behind encoding t palette lo hi o (x ∷ xs) far =
    let c : Option ℕ = colour_of palette x.kind in
    let others : List Part = coloured_from encoding t palette (o + x.length) xs in
    let up : IsUpTo (position encoding t o) (position encoding t (o + x.length)) = position-mono encoding t o (o + x.length) (omega arith) in
    filter-append (is_on lo hi) (parts_in encoding t (position encoding t o) (position encoding t (o + x.length)) c) others
    ∙ ap (λ ps. ps ++ within lo hi others) (part_behind encoding t lo hi (position encoding t o) (position encoding t (o + x.length)) c far)
    ∙ all_behind encoding t palette lo hi (o + x.length) xs (omega (arith, up.lines))

-- the parts of tokens, and then those of others
pub coloured_both : (encoding : Encoding) (t : List ℕ) (palette : List (Option ℕ)) (o : ℕ) (xs ys : List PlainToken)
    → coloured_from encoding t palette o (xs ++ ys) ≡ coloured_from encoding t palette o xs ++ coloured_from encoding t palette (o + chars xs) ys
coloured_both encoding t palette o [] ys =
    let here : o ≡ o + 0 = omega arith in
    ap (λ n. coloured_from encoding t palette n ys) here
coloured_both encoding t palette o (x ∷ xs) ys =
    let mine : List Part = parts_in encoding t (position encoding t o) (position encoding t (o + x.length)) (colour_of palette x.kind) in
    let there : o + x.length + chars xs ≡ o + chars (x ∷ xs) = omega (arith, chars-cons x xs) in
    ap (λ ps. mine ++ ps) (coloured_both encoding t palette (o + x.length) xs ys)
    ∙ sym (append_assoc mine (coloured_from encoding t palette (o + x.length) xs) (coloured_from encoding t palette (o + x.length + chars xs) ys))
    ∙ ap (λ n. mine ++ coloured_from encoding t palette (o + x.length) xs ++ coloured_from encoding t palette n ys) there
