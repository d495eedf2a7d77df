-- What a walk knows after it has gone on.
use Rattle.colours.proofs.Std.{◌+◌, ◌-◌, ◌<◌, ◌≤◌, ◌≡◌, ◌∙◌, ◌∷◌, ◌++◌, ◌⊎◌, ◌==◌, ◌||◌, ◌&&◌, not, Bool, true, false, List, Option, Some, [], All, ap, drop, inl, inr, length, refl, slice_index, subst, sym, take, ℕ}
use Rattle.colours.proofs.Std.{arith, drop-drop, get_or-append_seam, get_or-drop, get_or-take, get_or_append_left, get_or_default, length-append, length-drop, length-take, cases_lt, false≢true}
use Rattle.colours.proofs.Common.{begins_with, ends_break, position, Position, Encoding, line_end}
use Rattle.colours.proofs.NextPosition.{goes_on, line_end-is, on_line, position-along, position-break, position-character, position-line, units-plain}
use Rattle.colours.specs.Steps.{AreEnds, IsPlain, IsStep, Step, behind, line_at}

-- a character after which a break ends is no part of a line
break_off : (c : ℕ) (rest : List ℕ) → ends_break c rest ≡ true → goes_on c ≡ false
break_off c rest e = go (c == 10) (c == 13) (begins_with 10 rest) e
  where
    go : (a b d : Bool) → (a || (b && not d)) ≡ true → not (a || b) ≡ false
    go true b d h = refl
    go false true d h = refl
    go false false d h = absurd (false≢true h)

-- plain characters, one by one
pub plain_each : (t : List ℕ) (o n : ℕ) → All IsPlain (take n (drop o t)) → o + n ≤ length t → (k : ℕ) → k < n → IsPlain (slice_index t (o + k))
plain_each t o n h l k m =
    subst IsPlain (get_or-take n (drop o t) k 0 m ∙ get_or-drop o t k 0) (h k 0 (omega (arith, length-take n (drop o t), length-drop o t)))

-- a walk that knows the ends of all lines that it has left
pub caught : (inside now : Step) → inside ≡ now → now.last ≡ line_at now → inside.last ≡ line_at inside
caught inside now e h = ap (λ (s : Step). s.last) e ∙ h ∙ ap line_at (sym e)

module _ (t : List ℕ) (encoding : Encoding) (offset : ℕ) (at : Position) (plain : ℕ) (next : Option ℕ) (ahead : List ℕ) (first : ℕ) (ends : List ℕ)
    (h : IsStep t encoding offset at plain next ahead first ends) where
  pub small_line : at.line ≤ 1048576
  small_line = omega (arith, ap (λ (p : Position). p.line) h.is, position-line encoding t offset, h.few)

  pub small_character : at.character ≤ 4194304
  small_character = omega (arith, ap (λ (p : Position). p.character) h.is, position-character encoding t offset, h.few)

  pub few_plain : plain ≤ 1048576
  few_plain = omega (arith, h.within, h.few)

  module _ (count : ℕ) (most : count ≤ plain) where
    on : (k : ℕ) → k < count → goes_on (slice_index t (offset + k)) ≡ true
    on k l = let c = h.plains k (omega (arith, l, most)) in on_line (slice_index t (offset + k)) c.1 c.2

    plain_all : All IsPlain (take count (drop offset t))
    plain_all = λ k d l.
        let near : k < count = omega (arith, l, length-take count (drop offset t)) in
        subst IsPlain (sym (get_or-take count (drop offset t) k d near ∙ get_or-drop offset t k d
        ∙ get_or_default t (offset + k) d 0 (omega (arith, near, most, h.within)))) (h.plains k (omega (arith, near, most)))

    pub place-plain : ◌≡◌ {A = Position} (record { line = at.line; character = at.character + count }) (position encoding t (offset + count))
    place-plain =
        let n : length (take count (drop offset t)) ≡ count = omega (arith, length-take count (drop offset t), length-drop offset t, h.within, most) in
        go n (cases_lt 0 count)
      where
        go : length (take count (drop offset t)) ≡ count → (0 < count) ⊎ (count ≤ 0)
            → ◌≡◌ {A = Position} (record { line = at.line; character = at.character + count }) (position encoding t (offset + count))
        go n (inl some) =
            ap (λ k. record { line = at.line; character = at.character + k }) (sym (units-plain encoding (take count (drop offset t)) plain_all ∙ n))
            ∙ position-along encoding t offset count (omega (arith, some)) (omega (arith, h.within, most)) on at h.is
        go n (inr none) =
            let character : at.character + count ≡ at.character = omega (arith, none) in
            let here : offset ≡ offset + count = omega (arith, none) in
            ap (λ k. record { line = at.line; character = k }) character ∙ h.is ∙ ap (position encoding t) here

    pub step-plain : (to : Position) → to ≡ record { line = at.line; character = at.character + count }
        → IsStep t encoding (offset + count) to (plain - count) next ahead first ends
    step-plain to is = record {
      within = omega (arith, h.within, most);
      few = h.few;
      is = is ∙ place-plain;
      plains = λ k l. let there : offset + (count + k) ≡ offset + count + k = omega arith in
          subst (λ n. IsPlain (slice_index t n)) there (h.plains (count + k) (omega (arith, l, most)));
      rest = (let same : offset + count + (plain - count) ≡ offset + plain = omega (arith, most) in ap (λ n. drop n t) same ∙ h.rest);
      known = h.known;
    }

  module _ (c : ℕ) (none : plain ≡ 0) (there : next ≡ Some c) where
    pub here : drop offset t ≡ c ∷ ahead
    here = (let same : offset ≡ offset + plain = omega (arith, none) in ap (λ n. drop n t) same ∙ h.rest ∙ ap (λ n. behind n ahead) there)

    ahead_is : ahead ≡ drop (offset + 1) t
    ahead_is = ap (drop 1) (sym here) ∙ drop-drop 1 offset t

    inside : offset < length t
    inside = omega (arith, ap length here, length-drop offset t)

    pub step-one : (count : ℕ) (later : Option ℕ) (others : List ℕ) (more : List ℕ) (to : Position) → All IsPlain (take count ahead) → count ≤ length ahead
        → drop count ahead ≡ behind later others → to ≡ position encoding t (offset + 1) → AreEnds encoding t first more
        → IsStep t encoding (offset + 1) to count later others first more
    step-one count later others more to plains within rest is known =
        let long : offset + 1 + count ≤ length t = omega (arith, within, ap length ahead_is, length-drop (offset + 1) t, inside) in
        record {
          within = long;
          few = h.few;
          is = is;
          plains = plain_each t (offset + 1) count (subst (λ xs. All IsPlain (take count xs)) ahead_is plains) long;
          rest = sym (drop-drop count (offset + 1) t) ∙ ap (drop count) (sym ahead_is) ∙ rest;
          known = known;
        }

    pub place-break : ends_break c ahead ≡ true → ◌≡◌ {A = Position} (record { line = at.line + 1; character = 0 }) (position encoding t (offset + 1))
    place-break e = position-break encoding t ahead offset c at here h.is e

    -- one more line has an end
    pub ends-more : first + length ends ≡ at.line → ends_break c ahead ≡ true → AreEnds encoding t first (ends ++ at.character ∷ [])
    ends-more caught e k l = go (cases_lt k (length ends))
      where
        go : (k < length ends) ⊎ (length ends ≤ k) → slice_index (ends ++ at.character ∷ []) k ≡ line_end encoding t (first + k)
        go (inl near) = get_or_append_left ends (at.character ∷ []) 0 k near ∙ h.known k near
        go (inr far) =
            let last : k ≡ length ends = omega (arith, far, l, length-append ends (at.character ∷ [])) in
            let line : at.line ≡ first + k = omega (arith, caught, last) in
            ap (slice_index (ends ++ at.character ∷ [])) last ∙ get_or-append_seam ends at.character [] 0 ∙ line_end-is encoding t h.few ahead offset c at here h.is (break_off c ahead e)
            ∙ ap (line_end encoding t) line
