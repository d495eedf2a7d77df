-- The offset of a position, by the prefixes of a text that are not past it.
use Rattle.pieces.proofs.Std.{suc, Bool, true, false, nat_le, take_while, ◌≡◌, ℕ, ◌+◌, ◌-◌, ◌<◌, ◌≤◌, ◌⊎◌, ◌&&◌, ◌==◌, List, [], ◌∷◌, ◌++◌, length, take, drop, refl, sym, ap, subst, inl, inr, ◌∙◌, cond}
use Rattle.pieces.proofs.Std.{cases_lt, cases_Bool, le-leb, lt-leb, eqb-true, eq-eqb, and_from, and_parts, and_right, false≢true, append-nil, append_assoc, take_at, get_or_past, drop_all, take_while-cons, arith, length-append}
use Rattle.pieces.proofs.Common.{Position, Encoding, ends_break, break_ends, line_of, line_start, line_from, unit, units, greatest, offset, greatest-is, line_start-le, units-take-lt, in_line, ends_with, end_before_feed, IsPast}
use Rattle.std.proofs.Common.{length-drop}
use Rattle.pieces.proofs.Prefixes.{ended_in, after_in, line-prefix, start_in, drop_prefix}
use Rattle.pieces.proofs.Joins.{feed, Class, Feed, Return, Other, class, units-append, units-cons, units-nil}
use Rattle.pieces.proofs.Steps.{breaks_at_end, is_between, end_at, end-is, taken-append, units_after-in_line, last-return, end-as_before_feed, end-in_next_line, end-feed, end-return, end-other}

-- how far a line has at most so many units, where it fits that far and its next character does not
most_fitting : (encoding : Encoding) (w rest : List ℕ) (limit : ℕ) → units encoding w ≤ limit → ((c : ℕ) (v : List ℕ) → rest ≡ c ∷ v → limit < units encoding w + unit encoding c)
    → greatest (λ n. nat_le (units encoding (take n (w ++ rest))) limit) (length (w ++ rest)) ≡ length w
most_fitting encoding w rest limit fits full =
    greatest-is (λ n. nat_le (units encoding (take n (w ++ rest))) limit) (length (w ++ rest)) (length w)
    (omega (arith, length-append w rest))
    (ap (λ l. nat_le (units encoding l) limit) (take_at w rest (length w) refl) ∙ le-leb _ _ fits)
    (λ k l m. lt-leb _ _ (too_many rest full k l m))
  where
    next : (c : ℕ) (v : List ℕ) → units encoding (take (length w + 1) (w ++ c ∷ v)) ≡ units encoding w + unit encoding c
    next c v =
        let many : length (w ++ c ∷ []) ≡ length w + 1 = length-append w (c ∷ []) ∙ omega arith in
        ap (λ l. units encoding (take (length w + 1) l)) (sym (append_assoc w (c ∷ []) v))
        ∙ ap (units encoding) (take_at (w ++ c ∷ []) v (length w + 1) many)
        ∙ units-append encoding w (c ∷ [])
        ∙ ap (λ n. units encoding w + n) (units-cons encoding c [] ∙ ap (λ n. unit encoding c + n) (units-nil encoding))
        ∙ omega arith

    too_many : (r : List ℕ) → ((c : ℕ) (v : List ℕ) → r ≡ c ∷ v → limit < units encoding w + unit encoding c) → (k : ℕ) → length w < k → k ≤ length (w ++ r) → limit < units encoding (take k (w ++ r))
    too_many [] h k l m = absurd (omega (arith, l, m, length-append w []))
    too_many (c ∷ v) h k l m = go (cases_lt (length w + 1) k)
      where
        go : (length w + 1 < k) ⊎ (k ≤ length w + 1) → limit < units encoding (take k (w ++ c ∷ v))
        go (inl p) = omega (arith, h c v refl, next c v, units-take-lt encoding (w ++ c ∷ v) (length w + 1) k p m)
        go (inr p) =
            let same : k ≡ length w + 1 = omega (arith, l, p) in
            omega (arith, h c v refl, next c v, ap (λ n. units encoding (take n (w ++ c ∷ v))) same)

abbrev first : List ℕ → ℕ
first [] = 0
first (c ∷ t) = c

not_empty : (c : ℕ) (t : List ℕ) → [] ≡ c ∷ t → ⊥
not_empty c t e = let none : 0 ≡ suc (length t) = ap length e in omega (arith, none)

-- the first character of what is taken is the first one, and passes
taken-first : (r : List ℕ) (c : ℕ) (v : List ℕ) → take_while in_line r ≡ c ∷ v → (w : List ℕ) × (r ≡ c ∷ w) × (in_line c ≡ true)
taken-first [] c v e = absurd (not_empty c v e)
taken-first (d ∷ r) c v e = go (cases_Bool (in_line d)) (sym (take_while-cons in_line d r) ∙ e)
  where
    go : (in_line d ≡ true) ⊎ (in_line d ≡ false) → cond (in_line d) (d ∷ take_while in_line r) [] ≡ c ∷ v → (w : List ℕ) × (d ∷ r ≡ c ∷ w) × (in_line c ≡ true)
    go (inl p) h =
        let same : d ≡ c = ap first (ap (λ b. cond b (d ∷ take_while in_line r) []) (sym p) ∙ h) in
        (r, ap (λ x. x ∷ r) same, subst (λ x. in_line x ≡ true) same p)
    go (inr p) h = absurd (not_empty c v (ap (λ b. cond b (d ∷ take_while in_line r) []) (sym p) ∙ h))

-- the offset of a position is the end of a prefix in its line that is not past it, where no character of the line fits after it
pub offset-here : (encoding : Encoding) (s r : List ℕ) (p : Position) → is_between s r ≡ false → p.line ≡ (end_at encoding s r).line → (end_at encoding s r).character ≤ p.character
    → ((c : ℕ) (w : List ℕ) → r ≡ c ∷ w → in_line c ≡ true → p.character < (end_at encoding s r).character + unit encoding c)
    → offset encoding (s ++ r) p ≡ length s
unfolding offset line_from
offset-here encoding s r p apart line fits full =
    ap (λ l. start + greatest (λ n. nat_le (units encoding (take n l)) p.character) (length l)) whole
    ∙ ap (λ n. start + n) (most_fitting encoding units_after (take_while in_line r) p.character counted stops)
    ∙ omega (arith, many, within)
  where
    start : ℕ
    start = line_start (s ++ r) p.line

    units_after : List ℕ
    units_after = after_in s r

    same : start ≡ line_start (s ++ r) (line_of (s ++ r) (length s))
    same = ap (line_start (s ++ r)) (line ∙ sym (line-prefix s r))

    within : start ≤ length s
    within = omega (arith, same, line_start-le (s ++ r) (length s))

    rest : drop start s ≡ units_after
    rest =
        let back : start ≡ line_start (s ++ r) (line_of (s ++ r) (length s)) - 0 = omega (arith, same) in
        ap (λ n. drop n s) back ∙ (start_in s r).rest

    many : length units_after ≡ length s - start
    many = ap length (sym rest) ∙ length-drop start s

    of_line : take_while in_line units_after ≡ units_after
    of_line = units_after-in_line s r apart

    whole : take_while in_line (drop start (s ++ r)) ≡ units_after ++ take_while in_line r
    whole = ap (take_while in_line) (drop_prefix start s r within ∙ ap (λ l. l ++ r) rest) ∙ taken-append units_after r of_line

    counted : units encoding units_after ≤ p.character
    counted = omega (arith, ap (units encoding) of_line, fits)

    stops : (c : ℕ) (v : List ℕ) → take_while in_line r ≡ c ∷ v → p.character < units encoding units_after + unit encoding c
    stops c v e =
        let h = taken-first r c v e in
        omega (arith, full c h.0 h.1 h.2, ap (units encoding) of_line)

-- a text has as many breaks as end in it, where nothing comes next
count_breaks : (o : ℕ) (t : List ℕ) → length (break_ends o t) ≡ ended_in t []
unfolding break_ends
count_breaks o [] = refl
count_breaks o (c ∷ t) = go (ends_break c t) (count_breaks (o + 1) t) ∙ ap (λ l. cond (ends_break c l) 1 0 + ended_in t []) (sym (append-nil t))
  where
    go : (b : Bool) → length (break_ends (o + 1) t) ≡ ended_in t [] → length (cond b ((o + 1) ∷ break_ends (o + 1) t) (break_ends (o + 1) t)) ≡ cond b 1 0 + ended_in t []
    go true e = omega (arith, e)
    go false e = omega (arith, e)

-- past the last line
pub offset-past_lines : (encoding : Encoding) (t : List ℕ) (p : Position) → ended_in t [] < p.line → offset encoding t p ≡ length t
unfolding offset line_start line_from greatest
offset-past_lines encoding t p few =
    let start : line_start t p.line ≡ length t = get_or_past (0 ∷ break_ends 0 t) p.line (length t) (omega (arith, few, count_breaks 0 t)) in
    let none : line_from (line_start t p.line) t ≡ [] = ap (take_while in_line) (drop_all (line_start t p.line) t (omega (arith, start))) in
    let nothing : greatest (λ n. nat_le (units encoding (take n [])) p.character) 0 ≡ 0 = refl in
    ap (λ l. line_start t p.line + greatest (λ n. nat_le (units encoding (take n l)) p.character) (length l)) none ∙ omega (arith, start, nothing)

-- A prefix of a text that is not past a position, and is past it with one character more: its end is the offset,
-- but where it ends with the `\r` that ends the line.
module _ (encoding : Encoding) (p : Position) where
  not_past-line : (q : Position) → ¬ IsPast p q → q.line ≤ p.line
  not_past-line q h = go (cases_lt p.line q.line)
    where
      go : (p.line < q.line) ⊎ (q.line ≤ p.line) → q.line ≤ p.line
      go (inl l) = absurd (h (inl l))
      go (inr l) = l

  not_past-character : (q : Position) → ¬ IsPast p q → p.line ≡ q.line → q.character ≤ p.character
  not_past-character q h e = go (cases_lt p.character q.character)
    where
      go : (p.character < q.character) ⊎ (q.character ≤ p.character) → q.character ≤ p.character
      go (inl l) = absurd (h (inr (e, l)))
      go (inr l) = l

  offset-next : (s r : List ℕ) (c : ℕ) → is_between s (c ∷ r) ≡ false → ¬ IsPast p (end_at encoding s (c ∷ r))
      → IsPast p (end_at encoding (s ++ c ∷ []) feed) → offset encoding (s ++ c ∷ r) p ≡ length s
  offset-next s r c apart before past = go (class c)
    where
      here : p.line ≡ (end_at encoding s (c ∷ r)).line → (in_line c ≡ true → p.character < (end_at encoding s (c ∷ r)).character + unit encoding c) → offset encoding (s ++ c ∷ r) p ≡ length s
      here line full =
          offset-here encoding s (c ∷ r) p apart line (not_past-character (end_at encoding s (c ∷ r)) before line)
          (λ d w e g. subst (λ x. in_line x ≡ true → p.character < (end_at encoding s (c ∷ r)).character + unit encoding x) (ap first e) full g)

      at_feed : c ≡ 10 → IsPast p (record { line = (end_at encoding s (c ∷ r)).line + 1; character = 0 }) → offset encoding (s ++ c ∷ r) p ≡ length s
      at_feed e (inl l) =
          here (omega (arith, l, not_past-line (end_at encoding s (c ∷ r)) before)) (λ g. absurd (false≢true (ap in_line (sym e) ∙ g)))
      at_feed e (inr h) = absurd (omega (arith, h.1))

      at_other : IsPast p (record { line = (end_at encoding s (c ∷ r)).line; character = (end_at encoding s (c ∷ r)).character + unit encoding c }) → offset encoding (s ++ c ∷ r) p ≡ length s
      at_other (inl l) = absurd (omega (arith, l, not_past-line (end_at encoding s (c ∷ r)) before))
      at_other (inr h) = here h.0 (λ g. h.1)

      go : Class c → offset encoding (s ++ c ∷ r) p ≡ length s
      go (Feed e) =
          let end : end_at encoding (s ++ c ∷ []) feed ≡ record { line = (end_at encoding s (c ∷ r)).line + 1; character = 0 } =
          subst (λ x. end_at encoding (s ++ x ∷ []) feed ≡ record { line = (end_at encoding s (x ∷ r)).line + 1; character = 0 }) (sym e) (end-feed encoding s r) in
          at_feed e (subst (IsPast p) end past)
      go (Return e) =
          let end : end_at encoding (s ++ c ∷ []) feed ≡ end_at encoding s (c ∷ r) =
          subst (λ x. end_at encoding (s ++ x ∷ []) feed ≡ end_at encoding s (x ∷ r)) (sym e) (end-return encoding s r) in
          absurd (before (subst (IsPast p) end past))
      go (Other a b) = at_other (subst (IsPast p) (end-other encoding s r c a b) past)

  -- where the line ends with the `\r` at the end of the prefix
  offset-before_return : (s r : List ℕ) → p.line ≡ (end_at encoding (s ++ 13 ∷ []) feed).line → ¬ IsPast p (end_at encoding (s ++ 13 ∷ []) feed) → offset encoding (s ++ 13 ∷ r) p ≡ length s
  offset-before_return s r line before =
      let end = end-return encoding s r in
      offset-here encoding s (13 ∷ r) p (and_right _ _ refl)
      (line ∙ ap (λ q. q.line) end)
      (not_past-character (end_at encoding s (13 ∷ r)) (subst (λ q. ¬ IsPast p q) end before) (line ∙ ap (λ q. q.line) end))
      (λ d w e g. absurd (false≢true (ap in_line (ap first e) ∙ g)))

  -- whether the line of the position ends with the `\r` at the end of the prefix
  abbrev is_line_return : List ℕ → Bool
  is_line_return s = ends_with 13 s && ((end_before_feed encoding s).line == p.line)

  -- where it doesn't, but the prefix ends with a `\r`, the line of the position is a later one
  earlier : (s : List ℕ) → ends_with 13 s ≡ true → is_line_return s ≡ false → ¬ IsPast p (end_before_feed encoding s) → (end_before_feed encoding s).line < p.line
  earlier s return other before = go (cases_lt (end_before_feed encoding s).line p.line)
    where
      go : ((end_before_feed encoding s).line < p.line) ⊎ (p.line ≤ (end_before_feed encoding s).line) → (end_before_feed encoding s).line < p.line
      go (inl l) = l
      go (inr l) =
          let same : (end_before_feed encoding s).line ≡ p.line = omega (arith, l, not_past-line (end_before_feed encoding s) before) in
          absurd (false≢true (sym other ∙ and_from _ _ return (eq-eqb _ _ same)))

  not_past-next : (line : ℕ) → line < p.line → ¬ IsPast p (record { line = line + 1; character = 0 })
  not_past-next line l (inl h) = omega (arith, l, h)
  not_past-next line l (inr h) = omega (arith, h.1)

  not_past-end : (s r : List ℕ) → is_line_return s ≡ false → ¬ IsPast p (end_before_feed encoding s) → ¬ IsPast p (end_at encoding s r)
  not_past-end s r other before = go (cases_Bool (breaks_at_end s r))
    where
      go : (breaks_at_end s r ≡ true) ⊎ (breaks_at_end s r ≡ false) → ¬ IsPast p (end_at encoding s r)
      go (inr b) = subst (λ q. ¬ IsPast p q) (sym (end-as_before_feed encoding s r b)) before
      go (inl b) =
          let fewer = earlier s (and_parts _ _ b).0 other before in
          subst (λ q. ¬ IsPast p q) (sym (end-in_next_line encoding s r b)) (not_past-next (end_before_feed encoding s).line fewer)

  apart : (s r : List ℕ) (c : ℕ) → is_line_return s ≡ false → ¬ IsPast p (end_before_feed encoding s) → IsPast p (end_before_feed encoding (s ++ c ∷ [])) → is_between s (c ∷ r) ≡ false
  apart s r c other before past = go (cases_Bool (is_between s (c ∷ r)))
    where
      at_feed : c ≡ 10 → ends_with 13 s ≡ true → ⊥
      at_feed e return =
          let end : end_before_feed encoding (s ++ 10 ∷ []) ≡ record { line = (end_before_feed encoding s).line + 1; character = 0 } =
          end-is encoding (s ++ 10 ∷ []) ∙ end-feed encoding s r ∙ ap next_line (end-as_before_feed encoding s (10 ∷ r) (and_right _ _ refl)) in
          not_past-next (end_before_feed encoding s).line (earlier s return other before) (subst (IsPast p) end (subst (λ x. IsPast p (end_before_feed encoding (s ++ x ∷ []))) e past))
        where
          next_line : Position → Position
          next_line q = record { line = q.line + 1; character = 0 }

      go : (is_between s (c ∷ r) ≡ true) ⊎ (is_between s (c ∷ r) ≡ false) → is_between s (c ∷ r) ≡ false
      go (inr b) = b
      go (inl b) = let parts = and_parts _ _ b in absurd (at_feed (sym (eqb-true 10 c parts.1)) parts.0)

  -- the line ends with the `\r` at the end of the prefix
  offset-line_return : (s r : List ℕ) → is_line_return s ≡ true → ¬ IsPast p (end_before_feed encoding s) → offset encoding (s ++ r) p ≡ length s - 1
  offset-line_return s r ends before =
      let parts = and_parts _ _ ends in
      let h = last-return s parts.0 in
      let end : end_before_feed encoding s ≡ end_at encoding (h.0 ++ 13 ∷ []) feed = end-is encoding s ∙ ap (λ l. end_at encoding l feed) h.1 in
      let line : p.line ≡ (end_at encoding (h.0 ++ 13 ∷ []) feed).line = sym (eqb-true _ _ parts.1) ∙ ap (λ q. q.line) end in
      ap (λ l. offset encoding (l ++ r) p) h.1
      ∙ ap (λ l. offset encoding l p) (append_assoc h.0 (13 ∷ []) r)
      ∙ offset-before_return h.0 r line (subst (λ q. ¬ IsPast p q) end before)
      ∙ omega (arith, ap length h.1, length-append h.0 (13 ∷ []))

  pub offset-step : (s r : List ℕ) (c : ℕ) → ¬ IsPast p (end_before_feed encoding s) → IsPast p (end_before_feed encoding (s ++ c ∷ []))
      → offset encoding (s ++ c ∷ r) p ≡ length s - cond (is_line_return s) 1 0
  offset-step s r c before past = go (cases_Bool (is_line_return s))
    where
      go : (is_line_return s ≡ true) ⊎ (is_line_return s ≡ false) → offset encoding (s ++ c ∷ r) p ≡ length s - cond (is_line_return s) 1 0
      go (inl e) = offset-line_return s (c ∷ r) e before ∙ ap (λ b. length s - cond b 1 0) (sym e)
      go (inr e) =
          let whole : length s ≡ length s - 0 = omega arith in
          offset-next s r c (apart s r c e before past) (not_past-end s (c ∷ r) e before) (subst (IsPast p) (end-is encoding (s ++ c ∷ [])) past)
          ∙ whole ∙ ap (λ b. length s - cond b 1 0) (sym e)

  -- where the whole text is not past the position
  offset-last : (t : List ℕ) → ¬ IsPast p (end_at encoding t []) → offset encoding t p ≡ length t
  offset-last t before = go (cases_lt (end_at encoding t []).line p.line)
    where
      go : ((end_at encoding t []).line < p.line) ⊎ (p.line ≤ (end_at encoding t []).line) → offset encoding t p ≡ length t
      go (inl l) = offset-past_lines encoding t p l
      go (inr l) =
          let line : p.line ≡ (end_at encoding t []).line = omega (arith, l, not_past-line (end_at encoding t []) before) in
          ap (λ l. offset encoding l p) (sym (append-nil t))
          ∙ offset-here encoding t [] p (and_right _ _ refl) line (not_past-character (end_at encoding t []) before line) (λ c w e. absurd (not_empty c w e))

  pub offset-end : (t : List ℕ) → ¬ IsPast p (end_before_feed encoding t) → offset encoding t p ≡ length t - cond (is_line_return t) 1 0
  offset-end t before = go (cases_Bool (is_line_return t))
    where
      go : (is_line_return t ≡ true) ⊎ (is_line_return t ≡ false) → offset encoding t p ≡ length t - cond (is_line_return t) 1 0
      go (inl e) = ap (λ l. offset encoding l p) (sym (append-nil t)) ∙ offset-line_return t [] e before ∙ ap (λ b. length t - cond b 1 0) (sym e)
      go (inr e) =
          let whole : length t ≡ length t - 0 = omega arith in
          offset-last t (not_past-end t [] e before) ∙ whole ∙ ap (λ b. length t - cond b 1 0) (sym e)
