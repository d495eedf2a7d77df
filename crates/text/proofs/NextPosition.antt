-- How the position of an offset follows from that of the offset before it.
use Rattle.text.proofs.Std.{zero, suc, ◌*◌, ◌⊎◌, Bool, false, not, ◌||◌, ◌==◌, nat_lt, slice_index, prefix_len, cond, refl, sym, ap, subst, inl, inr, ◌∙◌, ◌≡◌, ℕ, ◌+◌, ◌-◌, ◌<◌, ◌≤◌, true, List, [], ◌∷◌, length, take, drop}
use Rattle.text.proofs.Std.{cases_lt, cases_Bool, false≢true, ne_eqb, len_utf8_bounds, drop_more, get_or-drop, get_or-take, length-take, take_more, take_all, length-prefix_len, prefix_len_passes, sum_by_push, sum_by-cons, arith, length-drop}
use Rattle.text.proofs.Common.{Position, Encoding, Utf8, Utf16, Utf32, ends_break, line_of, line_start, line_from, unit, units, position, in_line_end}
use Rattle.text.proofs.Lines.{Reached, Reached-start, Reached-break, Reached-same, Reached-end}

-- the character is of the line
abbrev pub is_of_line : ℕ → Bool
is_of_line c = not (c == 10 || c == 13)

pub of_line : (c : ℕ) → (c ≡ 10 → ⊥) → (c ≡ 13 → ⊥) → is_of_line c ≡ true
of_line c a b = rw (ne_eqb c 10 a, ne_eqb c 13 b) refl

units-none : (encoding : Encoding) (xs : List ℕ) (i : ℕ) → units encoding (take (i - i) xs) ≡ 0
unfolding units
units-none encoding xs i = let zero_many : i - i ≡ 0 = omega arith in ap (λ n. units encoding (take n xs)) zero_many

unit-le : (encoding : Encoding) (c : ℕ) → unit encoding c ≤ 4
unit-le Utf8 c = (len_utf8_bounds c).1
unit-le Utf16 c = go (nat_lt c 0x1_0000)
  where
    go : (b : Bool) → cond b 1 2 ≤ 4
    go true = omega arith
    go false = omega arith
unit-le Utf32 c = omega arith

-- whether a break ends after place i
abbrev pub is_end : List ℕ → ℕ → Bool
is_end t i = ends_break (slice_index t i) (drop (i + 1) t)

-- where no break ends, there is no `\n`
pub ends-line : (t : List ℕ) (i c : ℕ) → is_end t i ≡ false → c ≡ slice_index t i → c ≡ 10 → ⊥
ends-line t i c e same ten = false≢true (sym e ∙ ap (λ d. ends_break d (drop (i + 1) t)) (sym same ∙ ten))

-- at place i so many lines have begun, the last one at start, whichever offset from there on is looked for
abbrev Known : List ℕ → ℕ → ℕ → ℕ → Type 0
Known t i line start = (o : ℕ) → i ≤ o → o ≤ length t → Reached t o i line start

reach : (t : List ℕ) (i : ℕ) → i ≤ length t → (line start : ℕ) × Known t i line start
reach t zero l = (0, 0, λ o a b. Reached-start t o)
reach t (suc i) l =
    let h = reach t i (omega arith) in
    let e : i + 1 ≡ suc i = omega arith in
    elim (cases_Bool (is_end t i)) [
      | inl b ↦ (h.0 + 1, i + 1, λ o p q. subst (λ k. Reached t o k (h.0 + 1) (i + 1)) e (Reached-break t o i h.0 h.1 (omega arith) q b (h.2 o (omega arith) q)))
      | inr b ↦ (h.0, h.1, λ o p q. subst (λ k. Reached t o k h.0 h.1) e (Reached-same t o i h.0 h.1 (omega arith) q b (h.2 o (omega arith) q)))
    ]

-- a line begins after a break
pub line-break : (t : List ℕ) (i : ℕ) → i < length t → is_end t i ≡ true → (line_of t (i + 1) ≡ line_of t i + 1) × (line_start t (line_of t (i + 1)) ≡ i + 1)
line-break t i l e =
    let h = reach t i (omega arith) in
    let here = Reached-end t i h.0 h.1 (h.2 i (omega arith) (omega arith)) in
    let there = Reached-end t (i + 1) (h.0 + 1) (i + 1) (Reached-break t (i + 1) i h.0 h.1 (omega arith) (omega arith) e (h.2 (i + 1) (omega arith) (omega arith))) in
    (omega (arith, here.0, there.0), sym there.1)

-- and else goes on
pub line-same : (t : List ℕ) (i : ℕ) → i < length t → is_end t i ≡ false → line_of t (i + 1) ≡ line_of t i
line-same t i l e =
    let h = reach t i (omega arith) in
    let here = Reached-end t i h.0 h.1 (h.2 i (omega arith) (omega arith)) in
    let there = Reached-end t (i + 1) h.0 h.1 (Reached-same t (i + 1) i h.0 h.1 (omega arith) (omega arith) e (h.2 (i + 1) (omega arith) (omega arith))) in
    omega (arith, here.0, there.0)

-- there are no more lines than characters, and a line begins at or before its offsets
pub line_of-le : (t : List ℕ) (i : ℕ) → i ≤ length t → line_of t i ≤ i
line_of-le t i l =
    let h = reach t i l in
    let r = h.2 i (omega arith) l in
    omega (arith, r.few, (Reached-end t i h.0 h.1 r).0)

pub start-le : (t : List ℕ) (i : ℕ) → i ≤ length t → line_start t (line_of t i) ≤ i
start-le t i l =
    let h = reach t i l in
    let r = h.2 i (omega arith) l in
    omega (arith, r.before, (Reached-end t i h.0 h.1 r).1)

-- the units before offset i in the line from s
abbrev count : Encoding → List ℕ → ℕ → ℕ → ℕ
count encoding t s i = units encoding (take (i - s) (line_from s t))

units-le : (encoding : Encoding) (xs : List ℕ) → units encoding xs ≤ 4 * length xs
unfolding units
units-le encoding [] = omega arith
units-le encoding (c ∷ xs) = omega (arith, sum_by-cons (unit encoding) c xs, unit-le encoding c, units-le encoding xs)

count-le : (encoding : Encoding) (t : List ℕ) (s i : ℕ) → count encoding t s i ≤ 4 * i
count-le encoding t s i = omega (arith, units-le encoding (take (i - s) (line_from s t)), length-take (i - s) (line_from s t))

-- a line ends where a character is not of it
line-short : (t : List ℕ) (s i : ℕ) → s ≤ i → i < length t → is_of_line (slice_index t i) ≡ false → length (line_from s t) ≤ i - s
unfolding line_from
line-short t s i l m e =
    let n : ℕ = prefix_len is_of_line (drop s t) in
    let long : length (take n (drop s t)) ≡ n = length-prefix_len is_of_line (drop s t) in
    elim (cases_lt (i - s) n) [
      | inl p ↦
          let same : s + (i - s) ≡ i = omega arith in
          let passes : is_of_line (slice_index (drop s t) (i - s)) ≡ true = prefix_len_passes is_of_line (drop s t) (i - s) 0 p in
          let there : slice_index (drop s t) (i - s) ≡ slice_index t i = get_or-drop s t (i - s) 0 ∙ ap (slice_index t) same in
          absurd (false≢true (sym e ∙ ap is_of_line (sym there) ∙ passes))
      | inr p ↦ omega (arith, long, p)
    ]

-- what stands in a line stands in the text
line-get : (t : List ℕ) (s k : ℕ) → k < length (line_from s t) → slice_index (line_from s t) k ≡ slice_index t (s + k)
unfolding line_from
line-get t s k l =
    let n : ℕ = prefix_len is_of_line (drop s t) in
    let long : length (take n (drop s t)) ≡ n = length-prefix_len is_of_line (drop s t) in
    get_or-take n (drop s t) k 0 (omega (arith, long, l)) ∙ get_or-drop s t k 0

count-same : (encoding : Encoding) (t : List ℕ) (s i : ℕ) → s ≤ i → i < length t → is_of_line (slice_index t i) ≡ false → count encoding t s (i + 1) ≡ count encoding t s i
count-same encoding t s i l m e =
    let short = line-short t s i l m e in
    ap (units encoding) (take_all (i + 1 - s) (line_from s t) (omega (arith, short)) ∙ sym (take_all (i - s) (line_from s t) short))

count-more : (encoding : Encoding) (t : List ℕ) (s i : ℕ) → s ≤ i → i - s < length (line_from s t) → count encoding t s (i + 1) ≡ count encoding t s i + unit encoding (slice_index t i)
unfolding units
count-more encoding t s i l m =
    let step : i + 1 - s ≡ i - s + 1 = omega arith in
    let same : s + (i - s) ≡ i = omega arith in
    let next : slice_index (line_from s t) (i - s) ≡ slice_index t i = line-get t s (i - s) m ∙ ap (slice_index t) same in
    ap (λ n. units encoding (take n (line_from s t))) step
    ∙ ap (units encoding) (take_more (line_from s t) (i - s) 0 m)
    ∙ sum_by_push (unit encoding) (take (i - s) (line_from s t)) (slice_index (line_from s t) (i - s))
    ∙ ap (λ c. count encoding t s i + unit encoding c) next

pub position-start : (encoding : Encoding) (t : List ℕ) → ◌≡◌ {A = Position} (record { line = 0; character = 0 }) (position encoding t 0)
unfolding position
position-start encoding t =
    let l : 0 ≡ line_of t 0 = omega (arith, line_of-le t 0 (omega arith)) in
    let c : 0 ≡ count encoding t (line_start t (line_of t 0)) 0 = omega (arith, count-le encoding t (line_start t (line_of t 0)) 0) in
    λ i. record { line = l i; character = c i }

pub position-line : (encoding : Encoding) (t : List ℕ) (i : ℕ) → i ≤ length t → (position encoding t i).line ≤ i
unfolding position
position-line encoding t i l = line_of-le t i l

pub position-character : (encoding : Encoding) (t : List ℕ) (i : ℕ) → (position encoding t i).character ≤ 4 * i
unfolding position
position-character encoding t i = count-le encoding t (line_start t (line_of t i)) i

module _ (encoding : Encoding) (t : List ℕ) (i : ℕ) (p : Position) (l : i < length t) (is : p ≡ position encoding t i) where
  pub position-break : is_end t i ≡ true → ◌≡◌ {A = Position} (record { line = p.line + 1; character = 0 }) (position encoding t (i + 1))
  unfolding position
  position-break e =
      let b = line-break t i l e in
      let line : p.line + 1 ≡ line_of t (i + 1) = ap (λ q. q.line + 1) is ∙ sym b.0 in
      let none : 0 ≡ count encoding t (line_start t (line_of t (i + 1))) (i + 1) = sym (ap (λ s. count encoding t s (i + 1)) b.1 ∙ units-none encoding (line_from (i + 1) t) (i + 1)) in
      λ k. record { line = line k; character = none k }

  pub position-same : is_end t i ≡ false → is_of_line (slice_index t i) ≡ false → p ≡ position encoding t (i + 1)
  unfolding position
  position-same e f =
      let same = line-same t i l e in
      let line : line_of t i ≡ line_of t (i + 1) = sym same in
      let units : count encoding t (line_start t (line_of t i)) i ≡ count encoding t (line_start t (line_of t (i + 1))) (i + 1) =
      sym (ap (λ n. count encoding t (line_start t n) (i + 1)) same ∙ count-same encoding t (line_start t (line_of t i)) i (start-le t i (omega arith)) l f) in
      is ∙ (λ k. record { line = line k; character = units k })

  pub position-more : is_end t i ≡ false → is_of_line (slice_index t i) ≡ true
      → ◌≡◌ {A = Position} (record { line = p.line; character = p.character + unit encoding (slice_index t i) }) (position encoding t (i + 1))
  unfolding position
  position-more e f =
      let same = line-same t i l e in
      let back : i + 1 - 1 ≡ i = omega arith in
      let inside = in_line_end t (i + 1) (omega arith, λ h. false≢true (sym (ap is_of_line (sym (ap (slice_index t) back) ∙ h.1)) ∙ f)) in
      let s : ℕ = line_start t (line_of t i) in
      let long : i + 1 ≤ s + length (line_from s t) = subst (λ n. i + 1 ≤ line_start t n + length (line_from (line_start t n) t)) same inside in
      let line : p.line ≡ line_of t (i + 1) = ap (λ q. q.line) is ∙ sym same in
      let more : p.character + unit encoding (slice_index t i) ≡ count encoding t (line_start t (line_of t (i + 1))) (i + 1) =
      ap (λ q. q.character + unit encoding (slice_index t i)) is ∙ sym (ap (λ n. count encoding t (line_start t n) (i + 1)) same
      ∙ count-more encoding t s i (start-le t i (omega arith)) (omega (arith, start-le t i (omega arith)))) in
      λ k. record { line = line k; character = more k }

-- the same where the text from place i on is known: a character and what comes after it
pub at_place : (t rest : List ℕ) (i c : ℕ) → drop i t ≡ c ∷ rest → (i < length t) × (c ≡ slice_index t i) × (rest ≡ drop (i + 1) t)
at_place t rest i c e = go (cases_lt i (length t))
  where
    go : (i < length t) ⊎ (length t ≤ i) → (i < length t) × (c ≡ slice_index t i) × (rest ≡ drop (i + 1) t)
    go (inl l) =
        let same : c ∷ rest ≡ slice_index t i ∷ drop (i + 1) t = sym e ∙ drop_more t i 0 l in
        (l, ap (λ xs. slice_index xs 0) same, ap (drop 1) same)
    go (inr l) = absurd (omega (arith, l, ap length e, length-drop i t))

-- a walk from a character to what comes after it
module _ (encoding : Encoding) (t rest : List ℕ) (i c : ℕ) (p : Position) (e : drop i t ≡ c ∷ rest) (is : p ≡ position encoding t i) where
  pub after_break : ends_break c rest ≡ true → ◌≡◌ {A = Position} (record { line = p.line + 1; character = 0 }) (position encoding t (i + 1))
  after_break h =
      let at = at_place t rest i c e in
      position-break encoding t i p at.0 is ((λ k. ends_break (sym at.1 k) (sym at.2 k)) ∙ h)

  pub after_return : ends_break c rest ≡ false → c ≡ 13 → p ≡ position encoding t (i + 1)
  after_return h r =
      let at = at_place t rest i c e in
      position-same encoding t i p at.0 is ((λ k. ends_break (sym at.1 k) (sym at.2 k)) ∙ h) (ap is_of_line (sym at.1 ∙ r))

  pub after_other : ends_break c rest ≡ false → (c ≡ 13 → ⊥) → ◌≡◌ {A = Position} (record { line = p.line; character = p.character + unit encoding c }) (position encoding t (i + 1))
  after_other h r =
      let at = at_place t rest i c e in
      let goes_on : is_end t i ≡ false = (λ k. ends_break (sym at.1 k) (sym at.2 k)) ∙ h in
      let join_three : ◌≡◌ {A = Position} (record { line = p.line; character = p.character + unit encoding c })
      (record { line = p.line; character = p.character + unit encoding (slice_index t i) }) = λ k. record { line = p.line; character = p.character + unit encoding (at.1 k) } in
      join_three ∙ position-more encoding t i p at.0 is goes_on (ap is_of_line (sym at.1) ∙ of_line c (ends-line t i c goes_on at.1) r)
