-- The end of a prefix of a text: its position by what comes next, and how it moves by one character.
use Rattle.pieces.proofs.Std.{arith, refl, sym, ap, subst, inl, inr, ◌∙◌, cond, ◌≡◌, ℕ, zero, suc, ◌+◌, ◌≤◌, ◌⊎◌, Bool, true, false, not, ◌||◌, ◌&&◌, ◌==◌, List, [], ◌∷◌, ◌++◌, length, take_while, cases_Bool, eqb-true, false≢true, and_parts, and_right, append_assoc, take_while-cons}
use Rattle.pieces.proofs.Common.{Position, Encoding, begins_with, ends_break, unit, units, in_line, ends_with, end_before_feed}
use Rattle.pieces.proofs.Prefixes.{ended_in, after_in, whole_if_none, units_after-none, units_after-some, position-prefix}
use Rattle.pieces.proofs.Joins.{feed, turned, Class, Feed, Return, Other, class, no_break, goes_on, units-cons, units-nil, units-append}

-- whether a `\r` at the end of s is a break, where r comes next
abbrev pub breaks_at_end : List ℕ → List ℕ → Bool
breaks_at_end s r = ends_with 13 s && not (begins_with 10 r)

-- whether the end of s is between a `\r` and a `\n`
abbrev pub is_between : List ℕ → List ℕ → Bool
is_between s r = ends_with 13 s && begins_with 10 r

-- the position of the end of s, where r comes next
abbrev pub end_at : Encoding → List ℕ → List ℕ → Position
end_at encoding s r = record { line = ended_in s r; character = units encoding (take_while in_line (after_in s r)) }

pub end-is : (encoding : Encoding) (s : List ℕ) → end_before_feed encoding s ≡ end_at encoding s feed
end-is encoding s = position-prefix encoding s feed

-- of what comes next, only that matters which makes a break of a `\r` or not
ended-same : (s r q : List ℕ) → breaks_at_end s r ≡ breaks_at_end s q → ended_in s r ≡ ended_in s q
ended-same [] r q e = refl
ended-same (c ∷ []) r q e =
    let same : ends_break c r ≡ ends_break c q =
    ap (λ x. c == 10 || (x && not (begins_with 10 r))) (turned c 13) ∙ ap (λ x. c == 10 || x) e ∙ ap (λ x. c == 10 || (x && not (begins_with 10 q))) (turned 13 c) in
    ap (λ x. cond x 1 0 + 0) same
ended-same (c ∷ d ∷ s) r q e = ap (λ n. cond (ends_break c (d ∷ s)) 1 0 + n) (ended-same (d ∷ s) r q e)

units_after-same : (s r q : List ℕ) → breaks_at_end s r ≡ breaks_at_end s q → after_in s r ≡ after_in s q
units_after-same [] r q e = refl
units_after-same (c ∷ []) r q e = ap (λ n. whole_if_none n (c ∷ []) []) (ended-same (c ∷ []) r q e)
units_after-same (c ∷ d ∷ s) r q e = λ i. whole_if_none (ended-same (c ∷ d ∷ s) r q e i) (c ∷ d ∷ s) (units_after-same (d ∷ s) r q e i)

pub end-same : (encoding : Encoding) (s r q : List ℕ) → breaks_at_end s r ≡ breaks_at_end s q → end_at encoding s r ≡ end_at encoding s q
end-same encoding s r q e = λ i. record { line = ended-same s r q e i; character = units encoding (take_while in_line (units_after-same s r q e i)) }

-- two parts
ended-append : (s x r : List ℕ) → ended_in (s ++ x) r ≡ ended_in s (x ++ r) + ended_in x r
ended-append [] x r = omega arith
ended-append (c ∷ s) x r =
    ap (λ t. cond (ends_break c t) 1 0 + ended_in (s ++ x) r) (append_assoc s x r) ∙ omega (arith, ended-append s x r)

units_after-append-none : (s x r : List ℕ) → ended_in x r ≡ 0 → after_in (s ++ x) r ≡ after_in s (x ++ r) ++ x
units_after-append-none [] x r e = units_after-none x r e
units_after-append-none (c ∷ s) x r e =
    let same : ended_in (c ∷ s ++ x) r ≡ ended_in (c ∷ s) (x ++ r) = ended-append (c ∷ s) x r ∙ omega (arith, e) in
    ap (λ n. whole_if_none n (c ∷ s ++ x) (after_in (s ++ x) r)) same ∙ go (ended_in (c ∷ s) (x ++ r)) (units_after-append-none s x r e)
  where
    go : (n : ℕ) → after_in (s ++ x) r ≡ after_in s (x ++ r) ++ x → whole_if_none n (c ∷ s ++ x) (after_in (s ++ x) r) ≡ whole_if_none n (c ∷ s) (after_in s (x ++ r)) ++ x
    go zero h = refl
    go (suc n) h = h

units_after-append-some : (s x r : List ℕ) → 1 ≤ ended_in x r → after_in (s ++ x) r ≡ after_in x r
units_after-append-some [] x r l = refl
units_after-append-some (c ∷ s) x r l = units_after-some c (s ++ x) r (omega (arith, l, ended-append (c ∷ s) x r)) ∙ units_after-append-some s x r l

-- what stands after the last break is of one line, but for a `\r` before the `\n` that comes next
pub taken-append : (w x : List ℕ) → take_while in_line w ≡ w → take_while in_line (w ++ x) ≡ w ++ take_while in_line x
taken-append [] x e = refl
taken-append (c ∷ w) x e = take_while-cons in_line c (w ++ x) ∙ go (in_line c) (sym (take_while-cons in_line c w) ∙ e) (taken-append w x)
  where
    go : (b : Bool) → cond b (c ∷ take_while in_line w) [] ≡ c ∷ w → (take_while in_line w ≡ w → take_while in_line (w ++ x) ≡ w ++ take_while in_line x)
        → cond b (c ∷ take_while in_line (w ++ x)) [] ≡ c ∷ w ++ take_while in_line x
    go true h later = ap (λ l. c ∷ l) (later (ap tail h))
      where
        tail : List ℕ → List ℕ
        tail [] = []
        tail (d ∷ l) = l
    go false h later = absurd (let none : 0 ≡ suc (length w) = ap length h in omega (arith, none))

none_open : (b : Bool) (n : ℕ) → cond b 1 0 + n ≡ 0 → b ≡ false
none_open true n h = absurd (omega (arith, h))
none_open false n h = refl

both_false : (b : Bool) → b ≡ false → not b ≡ false → ⊥
both_false true p q = false≢true (sym p)
both_false false p q = false≢true (sym q)

-- a `\r` that is no break stands at the end, before a `\n`, or a `\n` that is a break stands after it
return_breaks : (s r : List ℕ) → is_between (13 ∷ s) r ≡ false → ended_in s r ≡ 0 → not (begins_with 10 (s ++ r)) ≡ false → ⊥
return_breaks [] r h none f = both_false (begins_with 10 r) h f
return_breaks (d ∷ s) r h none f = go (cases_Bool (10 == d))
  where
    go : ((10 == d) ≡ true) ⊎ ((10 == d) ≡ false) → ⊥
    go (inl p) =
        let some : ended_in (10 ∷ s) r ≡ 0 = subst (λ x. ended_in (x ∷ s) r ≡ 0) (sym (eqb-true 10 d p)) none in
        omega (arith, some)
    go (inr p) = both_false (10 == d) p f

of_line : (c : ℕ) (s r : List ℕ) → is_between (c ∷ s) r ≡ false → ended_in s r ≡ 0 → ends_break c (s ++ r) ≡ false → in_line c ≡ true
of_line c s r e none f = go (class c)
  where
    go : Class c → in_line c ≡ true
    go (Feed p) = absurd (false≢true (sym f ∙ ap (λ x. ends_break x (s ++ r)) p))
    go (Return p) = absurd (return_breaks s r (ap (λ x. is_between (x ∷ s) r) (sym p) ∙ e) none (ap (λ x. ends_break x (s ++ r)) (sym p) ∙ f))
    go (Other p q) = goes_on c p q

units_after-cons : (c : ℕ) (s r : List ℕ) → is_between (c ∷ s) r ≡ false → take_while in_line (after_in s r) ≡ after_in s r → take_while in_line (after_in (c ∷ s) r) ≡ after_in (c ∷ s) r
units_after-cons c s r e later = go (ended_in (c ∷ s) r) refl
  where
    go : (n : ℕ) → ended_in (c ∷ s) r ≡ n → take_while in_line (whole_if_none n (c ∷ s) (after_in s r)) ≡ whole_if_none n (c ∷ s) (after_in s r)
    go (suc n) h = later
    go zero h =
        let none : ended_in s r ≡ 0 = omega (arith, h) in
        let rest : take_while in_line s ≡ s = subst (λ l. take_while in_line l ≡ l) (units_after-none s r none) later in
        take_while-cons in_line c s ∙ ap (λ b. cond b (c ∷ take_while in_line s) []) (of_line c s r e none (none_open (ends_break c (s ++ r)) (ended_in s r) h)) ∙ ap (λ l. c ∷ l) rest

pub units_after-in_line : (s r : List ℕ) → is_between s r ≡ false → take_while in_line (after_in s r) ≡ after_in s r
units_after-in_line [] r e = refl
units_after-in_line (c ∷ []) r e = units_after-cons c [] r e refl
units_after-in_line (c ∷ d ∷ s) r e = units_after-cons c (d ∷ s) r e (units_after-in_line (d ∷ s) r e)

-- after a `\r` that is a break
pub end-after_return : (encoding : Encoding) (s r : List ℕ) → begins_with 10 r ≡ false → end_at encoding (s ++ 13 ∷ []) r
    ≡ record { line = (end_at encoding (s ++ 13 ∷ []) feed).line + 1; character = 0 }
end-after_return encoding s r e =
    let one : ended_in (13 ∷ []) r ≡ 1 = ap (λ b. cond (not b) 1 0 + 0) e in
    let before : ended_in s (13 ∷ r) ≡ ended_in s (13 ∷ feed) = ended-same s (13 ∷ r) (13 ∷ feed) refl in
    let line : ended_in (s ++ 13 ∷ []) r ≡ ended_in (s ++ 13 ∷ []) feed + 1 = omega (arith, ended-append s (13 ∷ []) r, ended-append s (13 ∷ []) feed, one, before) in
    let none : after_in (s ++ 13 ∷ []) r ≡ [] = units_after-append-some s (13 ∷ []) r (omega (arith, one)) ∙ units_after-some 13 [] r (omega (arith, one)) in
    λ i. record { line = line i; character = (ap (λ l. units encoding (take_while in_line l)) none ∙ units-nil encoding) i }

-- one character more
pub end-feed : (encoding : Encoding) (s r : List ℕ) → end_at encoding (s ++ 10 ∷ []) feed ≡ record { line = (end_at encoding s (10 ∷ r)).line + 1; character = 0 }
end-feed encoding s r =
    let before : ended_in s (10 ∷ feed) ≡ ended_in s (10 ∷ r) = ended-same s (10 ∷ feed) (10 ∷ r) refl in
    let line : ended_in (s ++ 10 ∷ []) feed ≡ ended_in s (10 ∷ r) + 1 = ended-append s (10 ∷ []) feed ∙ omega (arith, before) in
    let none : after_in (s ++ 10 ∷ []) feed ≡ [] = units_after-append-some s (10 ∷ []) feed (omega arith) in
    λ i. record { line = line i; character = (ap (λ l. units encoding (take_while in_line l)) none ∙ units-nil encoding) i }

cut_at_return : (w : List ℕ) → take_while in_line (w ++ 13 ∷ []) ≡ take_while in_line w
cut_at_return [] = refl
cut_at_return (c ∷ w) = take_while-cons in_line c (w ++ 13 ∷ []) ∙ ap (λ l. cond (in_line c) (c ∷ l) []) (cut_at_return w) ∙ sym (take_while-cons in_line c w)

pub end-return : (encoding : Encoding) (s r : List ℕ) → end_at encoding (s ++ 13 ∷ []) feed ≡ end_at encoding s (13 ∷ r)
end-return encoding s r =
    let same : breaks_at_end s (13 ∷ feed) ≡ breaks_at_end s (13 ∷ r) = refl in
    let line : ended_in (s ++ 13 ∷ []) feed ≡ ended_in s (13 ∷ r) = ended-append s (13 ∷ []) feed ∙ omega (arith, ended-same s (13 ∷ feed) (13 ∷ r) same) in
    let units_after : after_in (s ++ 13 ∷ []) feed ≡ after_in s (13 ∷ r) ++ 13 ∷ [] = units_after-append-none s (13 ∷ []) feed refl
    ∙ ap (λ l. l ++ 13 ∷ []) (units_after-same s (13 ∷ feed) (13 ∷ r) same) in
    λ i. record { line = line i; character = ap (units encoding) (ap (take_while in_line) units_after ∙ cut_at_return (after_in s (13 ∷ r))) i }

pub end-other : (encoding : Encoding) (s r : List ℕ) (c : ℕ) → (c == 10) ≡ false → (c == 13) ≡ false → end_at encoding (s ++ c ∷ []) feed
    ≡ record { line = (end_at encoding s (c ∷ r)).line; character = (end_at encoding s (c ∷ r)).character + unit encoding c }
end-other encoding s r c a b =
    let same : breaks_at_end s (c ∷ feed) ≡ breaks_at_end s (c ∷ r) = refl in
    let none : ended_in (c ∷ []) feed ≡ 0 = ap (λ x. cond x 1 0 + 0) (no_break c feed a b) in
    let line : ended_in (s ++ c ∷ []) feed ≡ ended_in s (c ∷ r) = ended-append s (c ∷ []) feed ∙ omega (arith, none, ended-same s (c ∷ feed) (c ∷ r) same) in
    let units_after : after_in (s ++ c ∷ []) feed ≡ after_in s (c ∷ r) ++ c ∷ [] = units_after-append-none s (c ∷ []) feed none ∙ ap (λ l. l ++ c ∷ []) (units_after-same s (c ∷ feed) (c ∷ r) same) in
    let apart : is_between s (c ∷ r) ≡ false = and_right _ _ (turned 10 c ∙ a) in
    let whole = units_after-in_line s (c ∷ r) apart in
    let one : take_while in_line (c ∷ []) ≡ c ∷ [] = take_while-cons in_line c [] ∙ ap (λ x. cond x (c ∷ take_while in_line []) []) (goes_on c a b) in
    let counted : units encoding (take_while in_line (after_in (s ++ c ∷ []) feed)) ≡ units encoding (take_while in_line (after_in s (c ∷ r))) + unit encoding c =
    ap (λ l. units encoding (take_while in_line l)) units_after
    ∙ ap (units encoding) (taken-append (after_in s (c ∷ r)) (c ∷ []) whole ∙ ap (λ l. after_in s (c ∷ r) ++ l) one)
    ∙ units-append encoding (after_in s (c ∷ r)) (c ∷ [])
    ∙ (λ i. units encoding (sym whole i) + units-one i) in
    λ i. record { line = line i; character = counted i }
  where
    units-one : units encoding (c ∷ []) ≡ unit encoding c
    units-one = units-cons encoding c [] ∙ ap (λ n. unit encoding c + n) (units-nil encoding) ∙ omega arith

-- what ends with a `\r` has it after a prefix
pub last-return : (s : List ℕ) → ends_with 13 s ≡ true → (t : List ℕ) × (s ≡ t ++ 13 ∷ [])
last-return [] e = absurd (false≢true e)
last-return (c ∷ []) e = ([], ap (λ x. x ∷ []) (sym (eqb-true 13 c e)))
last-return (c ∷ d ∷ s) e = let h = last-return (d ∷ s) e in (c ∷ h.0, ap (λ l. c ∷ l) h.1)

no_break_before_feed : (s : List ℕ) → breaks_at_end s feed ≡ false
no_break_before_feed s = and_right _ _ refl

-- the position of the end of a prefix
pub end-as_before_feed : (encoding : Encoding) (s r : List ℕ) → breaks_at_end s r ≡ false → end_at encoding s r ≡ end_before_feed encoding s
end-as_before_feed encoding s r e = end-same encoding s r feed (e ∙ sym (no_break_before_feed s)) ∙ sym (end-is encoding s)

pub end-in_next_line : (encoding : Encoding) (s r : List ℕ) → breaks_at_end s r ≡ true → end_at encoding s r ≡ record { line = (end_before_feed encoding s).line + 1; character = 0 }
end-in_next_line encoding s r e =
    let parts = and_parts (ends_with 13 s) (not (begins_with 10 r)) e in
    let h = last-return s parts.0 in
    ap (λ l. end_at encoding l r) h.1
    ∙ end-after_return encoding h.0 r (opposite (begins_with 10 r) parts.1)
    ∙ ap (λ q. next_line q) (ap (λ l. end_at encoding l feed) (sym h.1) ∙ sym (end-is encoding s))
  where
    next_line : Position → Position
    next_line q = record { line = q.line + 1; character = 0 }

    opposite : (b : Bool) → not b ≡ true → b ≡ false
    opposite true h = absurd (false≢true h)
    opposite false h = refl
