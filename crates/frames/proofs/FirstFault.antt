-- What field lines give: the first faulty one decides, or else the one `Content-Length`.
use Rattle.frames.proofs.Std.{◌≡◌, ◌||◌, ◌-◌, length, take, ℕ, zero, suc, Bool, true, false, List, [], ◌∷◌, ◌++◌, refl, ap, sym, subst, ◌∙◌, inl, inr, ◌⊎◌, Option, Some, None, is_some, cond, Result, Ok, Err, Any, ◌↔◌, option_and_then, ok_or, option_or, option_map_or}
use Rattle.frames.proofs.Std.{arith, or_assoc, or-false, or_parts}
use Rattle.frames.proofs.Common.{FrameFault, NoLength, SecondLength, BadField, is_content_length, length_value, field_of, field_length, field_fault, line_fault, line_length, lines_of, lines_length, has_length, HaveLength, IsWhole, IsHeaderLength, header_length}
use Rattle.frames.proofs.FieldLines.{has_field_lines, field_lines_are}

-- no line is faulty, by whether a length was given before them
abbrev AreFaultlessAfter : Bool → List (List ℕ) → Type 0
AreFaultlessAfter is_given lines = (before after : List (List ℕ)) (line : List ℕ) → lines ≡ before ++ line ∷ after → line_fault (is_given || has_length before) line ≡ None

-- the first faulty line has this fault
abbrev IsFirstFaultAfter : Bool → List (List ℕ) → FrameFault → Type 0
IsFirstFaultAfter is_given lines fault =
    (before after : List (List ℕ)) × (line : List ℕ) × (lines ≡ before ++ line ∷ after) × AreFaultlessAfter is_given before × (line_fault (is_given || has_length before) line ≡ Some fault)

abbrev ShowsLength : ℕ → List (List ℕ) → Type 0
ShowsLength n lines = Any (λ line. line_length line ≡ Some n) lines

module _ (is_given : Bool) (line : List ℕ) where
  -- whether a length is given after this line
  abbrev now_shown : Bool
  now_shown = is_given || is_some (line_length line)

  fault_after : (before : List (List ℕ)) (l : List ℕ) → line_fault (now_shown || has_length before) l ≡ line_fault (is_given || has_length (line ∷ before)) l
  fault_after before l = ap (λ t. line_fault t l) (or_assoc is_given (is_some (line_length line)) (has_length before))

  faultless_cons : (lines : List (List ℕ)) → line_fault is_given line ≡ None → AreFaultlessAfter now_shown lines → AreFaultlessAfter is_given (line ∷ lines)
  faultless_cons lines here later [] after l e =
      let same : line ≡ l = cc in
      (λ i. line_fault (or-false is_given i) (sym same i)) ∙ here
  faultless_cons lines here later (b ∷ before) after l e =
      let same : line ≡ b = cc in
      let rest : lines ≡ before ++ l ∷ after = cc in
      ap (λ x. line_fault (is_given || has_length (x ∷ before)) l) (sym same) ∙ sym (fault_after before l) ∙ later before after l rest

  faultless_head : (lines : List (List ℕ)) → AreFaultlessAfter is_given (line ∷ lines) → line_fault is_given line ≡ None
  faultless_head lines h = ap (λ t. line_fault t line) (sym (or-false is_given)) ∙ h [] lines line refl

  faultless_tail : (lines : List (List ℕ)) → AreFaultlessAfter is_given (line ∷ lines) → AreFaultlessAfter now_shown lines
  faultless_tail lines h before after l e = fault_after before l ∙ h (line ∷ before) after l (ap (λ ls. line ∷ ls) e)

  fault_cons : (lines : List (List ℕ)) (fault : FrameFault) → line_fault is_given line ≡ None → IsFirstFaultAfter now_shown lines fault → IsFirstFaultAfter is_given (line ∷ lines) fault
  fault_cons lines fault here (before, after, l, e, faultless, h) = (line ∷ before, after, l, ap (λ ls. line ∷ ls) e, faultless_cons before here faultless, sym (fault_after before l) ∙ h)

-- what lines give after ones that gave this
abbrev ShowAfter : Option ℕ → List (List ℕ) → Result ℕ FrameFault → Type 0
ShowAfter given lines (Ok n) = AreFaultlessAfter (is_some given) lines × ((given ≡ Some n) ⊎ ((given ≡ None) × ShowsLength n lines))
ShowAfter given lines (Err fault) = IsFirstFaultAfter (is_some given) lines fault ⊎ (AreFaultlessAfter (is_some given) lines × (given ≡ None) × (has_length lines ≡ false) × (fault ≡ NoLength))

none_faultless : (is_given : Bool) → AreFaultlessAfter is_given []
none_faultless is_given [] after line e = cc
none_faultless is_given (b ∷ before) after line e = cc

show_none : (given : Option ℕ) → ShowAfter given [] (ok_or given NoLength)
show_none None = inr (none_faultless false, refl, refl, refl)
show_none (Some n) = (none_faultless true, inl refl)

shown_or : (given new : Option ℕ) → is_some (option_or given new) ≡ (is_some given || is_some new)
shown_or None new = refl
shown_or (Some n) new = refl

no_or : (given new : Option ℕ) → option_or given new ≡ None → (given ≡ None) × (new ≡ None)
no_or None new h = (refl, h)
no_or (Some n) new h = cc

here_or_later : (n : ℕ) (given : Option ℕ) (line : List ℕ) (lines : List (List ℕ))
    → ((option_or given (line_length line) ≡ Some n) ⊎ ((option_or given (line_length line) ≡ None) × ShowsLength n lines)) → (given ≡ Some n) ⊎ ((given ≡ None) × ShowsLength n (line ∷ lines))
here_or_later n None line lines (inl h) = inr (refl, (0, line, omega arith, refl, h))
here_or_later n None line lines (inr h) = inr (refl, (suc h.1.0, h.1.1, omega (arith, h.1.2), h.1.3, h.1.4))
here_or_later n (Some m) line lines (inl h) = inl h
here_or_later n (Some m) line lines (inr h) = cc

show_cons : (given : Option ℕ) (line : List ℕ) (lines : List (List ℕ)) (r : Result ℕ FrameFault) → line_fault (is_some given) line ≡ None
    → ShowAfter (option_or given (line_length line)) lines r → ShowAfter given (line ∷ lines) r
show_cons given line lines (Ok n) here h =
    let P : Bool → Type 0 = λ t. AreFaultlessAfter t lines in
    (faultless_cons (is_some given) line lines here (subst P (shown_or given (line_length line)) h.0), here_or_later n given line lines h.1)
show_cons given line lines (Err fault) here (inl h) =
    let P : Bool → Type 0 = λ t. IsFirstFaultAfter t lines fault in
    inl (fault_cons (is_some given) line lines fault here (subst P (shown_or given (line_length line)) h))
show_cons given line lines (Err fault) here (inr h) =
    let P : Bool → Type 0 = λ t. AreFaultlessAfter t lines in
    let none = no_or given (line_length line) h.1 in
    inr (faultless_cons (is_some given) line lines here (subst P (shown_or given (line_length line)) h.0), none.0, (λ i. is_some (none.1 i) || h.2 i), h.3)

show_step : (given : Option ℕ) (line : List ℕ) (lines : List (List ℕ)) (r : Result ℕ FrameFault) (o : Option FrameFault) → line_fault (is_some given) line ≡ o
    → ShowAfter (option_or given (line_length line)) lines r → ShowAfter given (line ∷ lines) (option_map_or (λ fault. Err fault) o r)
show_step given line lines r None e h = show_cons given line lines r e h
show_step given line lines r (Some fault) e h = inl ([], lines, line, refl, none_faultless (is_some given), ap (λ t. line_fault t line) (or-false (is_some given)) ∙ e)

-- the length of lines is what they give
lines_show : (given : Option ℕ) (lines : List (List ℕ)) → ShowAfter given lines (lines_length given lines)
lines_show given [] = show_none given
lines_show given (line ∷ lines) =
    let now = option_or given (line_length line) in
    show_step given line lines (lines_length now lines) (line_fault (is_some given) line) refl (lines_show now lines)

-- the first faulty line decides
first_fault : (given : Option ℕ) (before after : List (List ℕ)) (line : List ℕ) (fault : FrameFault) → AreFaultlessAfter (is_some given) before
    → line_fault (is_some given || has_length before) line ≡ Some fault → lines_length given (before ++ line ∷ after) ≡ Err fault
first_fault given [] after line fault faultless h = ap (λ o. option_map_or (λ f. Err f) o (lines_length (option_or given (line_length line)) after))
    (ap (λ t. line_fault t line) (sym (or-false (is_some given))) ∙ h)
first_fault given (b ∷ before) after line fault faultless h =
    let now = option_or given (line_length b) in
    let rest = before ++ line ∷ after in
    let same = shown_or given (line_length b) in
    let P : Bool → Type 0 = λ t. AreFaultlessAfter t before in
    ap (λ o. option_map_or (λ f. Err f) o (lines_length now rest)) (faultless_head (is_some given) b before faultless)
    ∙ first_fault now before after line fault (subst P (sym same) (faultless_tail (is_some given) b before faultless))
    (ap (λ t. line_fault (t || has_length before) line) same ∙ fault_after (is_some given) b before line ∙ h)

-- a line without a fault leaves it to those after it
faultless_on : (given now : Option ℕ) (line : List ℕ) (lines : List (List ℕ)) → line_fault (is_some given) line ≡ None
    → option_or given (line_length line) ≡ now → lines_length given (line ∷ lines) ≡ lines_length now lines
faultless_on given now line lines h e = ap (λ o. option_map_or (λ f. Err f) o (lines_length (option_or given (line_length line)) lines)) h ∙ ap (λ t. lines_length t lines) e

or_none : (given new : Option ℕ) → is_some new ≡ false → option_or given new ≡ given
or_none None None h = refl
or_none None (Some n) h = cc
or_none (Some m) new h = refl

-- lines without a fault and without a length leave what was given
no_length : (given : Option ℕ) (lines : List (List ℕ)) → AreFaultlessAfter (is_some given) lines → has_length lines ≡ false → lines_length given lines ≡ ok_or given NoLength
no_length given [] faultless h = refl
no_length given (line ∷ lines) faultless h =
    let none = or_parts (is_some (line_length line)) (has_length lines) h in
    let same = or_none given (line_length line) none.0 in
    let P : Bool → Type 0 = λ t. AreFaultlessAfter t lines in
    let rest = subst P (sym (shown_or given (line_length line)) ∙ ap is_some same) (faultless_tail (is_some given) line lines faultless) in
    faultless_on given given line lines (faultless_head (is_some given) line lines faultless) same ∙ no_length given lines rest none.1

-- a second length is faulty
second : (line : List ℕ) (n : ℕ) → line_length line ≡ Some n → line_fault true line ≡ None → ⊥
second line n = by_field (field_of line)
  where
    by_name : (t : Bool) (value : Option ℕ) (o : Option FrameFault) → cond t value None ≡ Some n → cond t (Some SecondLength) o ≡ None → ⊥
    by_name true value o h k = cc
    by_name false value o h k = cc

    by_field : (o : Option (List ℕ × List ℕ)) → option_and_then field_length o ≡ Some n → option_map_or (field_fault true) o (Some BadField) ≡ None → ⊥
    by_field None h k = cc
    by_field (Some field) h k = by_name (is_content_length field.0) (length_value field.1) _ h k

no_second : (n : ℕ) (lines : List (List ℕ)) → AreFaultlessAfter true lines → ShowsLength n lines → ⊥
no_second n [] faultless h = absurd (omega (arith, h.2))
no_second n (line ∷ lines) faultless (zero, l, short, is, h) = let same : line ≡ l = is in second line n (ap line_length same ∙ h) (faultless_head true line lines faultless)
no_second n (line ∷ lines) faultless (suc k, l, short, is, h) = no_second n lines (faultless_tail true line lines faultless) (k, l, omega (arith, short), is, h)

-- after a length, lines without a fault leave it
one_length : (n : ℕ) (lines : List (List ℕ)) → AreFaultlessAfter true lines → lines_length (Some n) lines ≡ Ok n
one_length n [] faultless = refl
one_length n (line ∷ lines) faultless = faultless_on (Some n) (Some n) line lines (faultless_head true line lines faultless) refl ∙ one_length n lines (faultless_tail true line lines faultless)

shown_here : (o : Option ℕ) (n : ℕ) (line : List ℕ) (lines : List (List ℕ)) → line_length line ≡ o → AreFaultlessAfter false (line ∷ lines)
    → ShowsLength n (line ∷ lines) → (o ≡ Some n) ⊎ ((o ≡ None) × ShowsLength n lines)
shown_here o n line lines e faultless (zero, l, short, is, h) = let same : line ≡ l = is in inl (sym e ∙ ap line_length same ∙ h)
shown_here None n line lines e faultless (suc k, l, short, is, h) = inr (refl, (k, l, omega (arith, short), is, h))
shown_here (Some m) n line lines e faultless (suc k, l, short, is, h) =
    let P : Bool → Type 0 = λ t. AreFaultlessAfter t lines in
    let rest = subst P (ap is_some e) (faultless_tail false line lines faultless) in
    absurd (no_second n lines rest (k, l, omega (arith, short), is, h))

-- of lines without a fault, the one that gives a length decides
add_length : (n : ℕ) (lines : List (List ℕ)) → AreFaultlessAfter false lines → ShowsLength n lines → lines_length None lines ≡ Ok n
add_length n [] faultless h = absurd (omega (arith, h.2))
add_length n (line ∷ lines) faultless h =
    let here = faultless_head false line lines faultless in
    let P : Bool → Type 0 = λ t. AreFaultlessAfter t lines in
    let rest = faultless_tail false line lines faultless in
    elim (shown_here (line_length line) n line lines refl faultless h) [
      | inl e ↦ faultless_on None (Some n) line lines here e ∙ one_length n lines (subst P (ap is_some e) rest)
      | inr e ↦ faultless_on None None line lines here e.0 ∙ add_length n lines (subst P (ap is_some e.0) rest) e.1
    ]

show_so : (lines : List (List ℕ)) (r : Result ℕ FrameFault) → ShowAfter None lines r → HaveLength lines r
show_so lines (Ok n) (faultless, inl e) = cc
show_so lines (Ok n) (faultless, inr h) = (faultless, h.1)
show_so lines (Err fault) (inl h) = inl h
show_so lines (Err fault) (inr h) = inr (h.0, h.2, h.3)

shown_so : (lines : List (List ℕ)) (r : Result ℕ FrameFault) → HaveLength lines r → lines_length None lines ≡ r
shown_so lines (Ok n) h = add_length n lines h.0 h.1
shown_so lines (Err fault) (inl (before, after, line, e, faultless, h)) = ap (lines_length None) e ∙ first_fault None before after line fault faultless h
shown_so lines (Err fault) (inr h) = no_length None lines h.0 h.1 ∙ ap (λ f. Err f) (sym h.2)

-- what a whole header part gives is what its field lines do
pub decides : (part : List ℕ) (result : Result ℕ FrameFault) → IsWhole part → (header_length part ≡ result) ↔ IsHeaderLength part result
decides part result whole =
    let lines = lines_of (take (length part - 2) part) in (
      (λ h. (lines, has_field_lines part whole, show_so lines result (subst (ShowAfter None lines) h (lines_show None lines)))),
      (λ h. ap (lines_length None) (field_lines_are part h.0 h.1) ∙ shown_so h.0 result h.2),
    )
