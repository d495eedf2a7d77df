-- A text that spells a well made expression has no fault.
use Rattle.patterns.proofs.Std.{◌≡◌, ◌≢◌, ◌⊎◌, inl, inr, ℕ, zero, suc, ◌-◌, ◌<◌, ◌≤◌, ◌==◌, nat_lt, nat_le, Bool, true, false, not, ◌||◌, List, [], ◌∷◌, ◌++◌, refl, sym, ◌∙◌, ap, subst, length, Option, Some, None, list_all, AllByRecursion}
use Rattle.patterns.proofs.Std.{append_assoc, add-one, arith, append-nil, nat_tests, and_parts, false_from_ne_true, or_left, or_right}
use Rattle.patterns.proofs.Common.{PatternFault, Interval, Expression, IsCharacter, is_member, is_within, is_in_class, Written, Plain, Escaped, BadEscape, written}
use Rattle.patterns.proofs.Common.{IsFault, code_after, is_everything, is_nothing, Before, Nothing, AnAtom, ARepetition, is_something, Outside, InLiteral, InClass, Opened, Items, First, Dash, closed, fault_from, or_later, first_fault}
use Rattle.patterns.proofs.Common.{Level, Alt, Seq, Rep, Atom, SpellsAt, IsSign, IsBlank, IsLiteralRest, IsLiteral, IsItem, IsClassRest, IsClass, IsClassChar, IsWellMade, IsPattern, Spells}
use Rattle.patterns.proofs.Common.{choice, sequence, star, plus, optional, literal, class, group, one_seq, one_rep, one_atom, blank_before, blank_after}
use Rattle.patterns.proofs.Common.{Begins, place}
use Rattle.patterns.proofs.Blanks.{blank_step}
use Rattle.patterns.proofs.WellMade.{or_case, le_tested}
use Rattle.patterns.proofs.Unique.{one_meaning}
use Rattle.patterns.proofs.Literals.{by_plain, eq_or_not, not_equal, literal_step, first_step, last_step, one_ends, no_caret, some_member}

-- what stands after a part of this level
abbrev Ends : Level → Before → Type 0
Ends Atom b = b ≡ AnAtom
Ends d b = is_something b ≡ true

abbrev Runs : Level → ℕ → List Written → Type 0
Runs l d ws = (n : ℕ) (b : Before) (rest : List Written) → (r : Before) × Ends l r × (fault_from n (Outside d b) (ws ++ rest) ≡ fault_from n (Outside d r) rest)

bar_step : (n d : ℕ) (b : Before) (w : Written) (ws : List Written) → IsSign 124 w → is_something b ≡ true → fault_from n (Outside d b) (w ∷ ws) ≡ fault_from n (Outside d Nothing) ws
bar_step n d b w ws h e = by_plain (λ x. fault_from n (Outside d b) (x ∷ ws) ≡ fault_from n (Outside d Nothing) ws) 124 w (λ o. rw e refl) h

choice_runs : (d : ℕ) (us vs ws : List Written) (w : Written) → ws ≡ us ++ w ∷ vs → IsSign 124 w → Runs Alt d us → Runs Alt d vs → Runs Alt d ws
choice_runs d us vs ws w f sign g h n b rest =
    let one = g n b (w ∷ vs ++ rest) in
    let two = h n Nothing rest in
    (two.0, two.1, ap (fault_from n (Outside d b)) (ap (λ x. x ++ rest) f ∙ append_assoc us (w ∷ vs) rest) ∙ one.2 ∙ bar_step n d one.0 w (vs ++ rest) sign one.1 ∙ two.2)

sequence_runs : (d : ℕ) (us vs ws : List Written) → ws ≡ us ++ vs → Runs Seq d us → Runs Seq d vs → Runs Seq d ws
sequence_runs d us vs ws f g h n b rest =
    let one = g n b (vs ++ rest) in
    let two = h n one.0 rest in
    (two.0, two.1, ap (fault_from n (Outside d b)) (ap (λ x. x ++ rest) f ∙ append_assoc us vs rest) ∙ one.2 ∙ two.2)

abbrev Repeats : ℕ → Written → Type 0
Repeats d w = (n : ℕ) (ws : List Written) → fault_from n (Outside d AnAtom) (w ∷ ws) ≡ fault_from n (Outside d ARepetition) ws

sign_runs : (d : ℕ) (us ws : List Written) (w : Written) → ws ≡ us ++ w ∷ [] → Repeats d w → Runs Atom d us → Runs Rep d ws
sign_runs d us ws w f step g n b rest =
    let one = g n b (w ∷ rest) in
    (ARepetition, refl, ap (fault_from n (Outside d b)) (ap (λ x. x ++ rest) f ∙ append_assoc us (w ∷ []) rest) ∙ one.2 ∙ ap (λ x. fault_from n (Outside d x) (w ∷ rest)) one.1 ∙ step n rest)

before_runs : (l : Level) (d : ℕ) (us : List Written) (w : Written) → IsBlank w → Runs l d us → Runs l d (w ∷ us)
before_runs l d us w blank g n b rest =
    let one = g n b rest in
    (one.0, one.1, blank_step n d b w (us ++ rest) blank ∙ one.2)

after_runs : (l : Level) (d : ℕ) (us ws : List Written) (w : Written) → ws ≡ us ++ w ∷ [] → IsBlank w → Runs l d us → Runs l d ws
after_runs l d us ws w f blank g n b rest =
    let one = g n b (w ∷ rest) in
    (one.0, one.1, ap (fault_from n (Outside d b)) (ap (λ x. x ++ rest) f ∙ append_assoc us (w ∷ []) rest) ∙ one.2 ∙ blank_step n d one.0 w rest blank)

atom_runs : (d : ℕ) (ws : List Written) → Runs Atom d ws → Runs Rep d ws
atom_runs d ws g n b rest = let one = g n b rest in (one.0, ap is_something one.1, one.2)

open_step : (n d : ℕ) (b : Before) (w : Written) (ws : List Written) → IsSign 40 w → d < 64 → fault_from n (Outside d b) (w ∷ ws) ≡ fault_from n (Outside (suc d) Nothing) ws
open_step n d b w ws h small =
    let e : nat_lt d 64 ≡ true = grind (arith, nat_tests) in
    by_plain (λ x. fault_from n (Outside d b) (x ∷ ws) ≡ fault_from n (Outside (suc d) Nothing) ws) 40 w (λ o. rw e (ap (λ x. fault_from n (Outside x Nothing) ws) (add-one d))) h

close_step : (n d : ℕ) (b : Before) (w : Written) (ws : List Written) → IsSign 41 w → is_something b ≡ true → fault_from n (Outside (suc d) b) (w ∷ ws) ≡ fault_from n (Outside d AnAtom) ws
close_step n d b w ws h something =
    let e : nat_lt 0 (suc d) ≡ true = grind (arith, nat_tests) in
    let f : suc d - 1 ≡ d = omega arith in
    by_plain (λ x. fault_from n (Outside (suc d) b) (x ∷ ws) ≡ fault_from n (Outside d AnAtom) ws) 41 w (λ o. rw (something, e) (ap (λ x. fault_from n (Outside x AnAtom) ws) f)) h

group_runs : (d : ℕ) (us ws : List Written) (w x : Written) → ws ≡ w ∷ us ++ x ∷ [] → IsSign 40 w → IsSign 41 x → d < 64 → Runs Alt (suc d) us → Runs Atom d ws
group_runs d us ws w x f opens closes small g n b rest =
    let one = g n Nothing (x ∷ rest) in (
      AnAtom,
      refl,
      ap (fault_from n (Outside d b)) (ap (λ y. y ++ rest) f ∙ ap (λ y. w ∷ y) (append_assoc us (x ∷ []) rest))
          ∙ open_step n d b w (us ++ x ∷ rest) opens small ∙ one.2 ∙ close_step n d one.0 x rest closes one.1,
    )

literal_rest : (n d q : ℕ) (v : List ℕ) (ws rest : List Written) → IsLiteralRest v ws → fault_from n (InLiteral d q false) (ws ++ rest) ≡ fault_from n (Outside d AnAtom) rest
literal_rest n d q v [] rest h = absurd h
literal_rest n d q [] (Plain o c ∷ ws) rest h =
    let P : ℕ → Type 0 = λ x. fault_from n (InLiteral d q false) (Plain o x ∷ ws ++ rest) ≡ fault_from n (Outside d AnAtom) rest in
    subst P h.0 (ap (λ y. fault_from n (Outside d AnAtom) (y ++ rest)) h.1)
literal_rest n d q (c ∷ v) (w ∷ ws) rest h = literal_step n d q false c w (ws ++ rest) h.0 ∙ literal_rest n d q v ws rest h.1
literal_rest n d q [] e rest h = absurd h.0

literal_begun : (n d q : ℕ) (v : List ℕ) (ws rest : List Written) → v ≢ [] → IsLiteralRest v ws → fault_from n (InLiteral d q true) (ws ++ rest) ≡ fault_from n (Outside d AnAtom) rest
literal_begun n d q v [] rest some h = absurd h
literal_begun n d q [] (w ∷ ws) rest some h = absurd (some refl)
literal_begun n d q (c ∷ v) (w ∷ ws) rest some h = literal_step n d q true c w (ws ++ rest) h.0 ∙ literal_rest n d q v ws rest h.1

pub literal_runs : (d : ℕ) (v : List ℕ) (ws : List Written) → IsLiteral v ws → v ≢ [] → Runs Atom d ws
literal_runs d v [] h some n b rest = absurd h
literal_runs d v (Plain o c ∷ ws) h some n b rest =
    let P : ℕ → Type 0 = λ x. fault_from n (Outside d b) (Plain o x ∷ ws ++ rest) ≡ fault_from n (Outside d AnAtom) rest in
    (AnAtom, refl, subst P h.0 (literal_begun n d o v ws rest some h.1))
literal_runs d v e h some n b rest = absurd h.0

char_other : (c : ℕ) (w : Written) → IsClassChar c w → (IsSign 45 w → ⊥) × (IsSign 94 w → ⊥)
char_other c (Plain o x) h = (λ e. h.2 (sym e), λ e. h.3 (sym e))
char_other c (Escaped o x) h = (λ e. e, λ e. e)
char_other c (BadEscape o) h = absurd h

first_char : (i : Interval) (item : List Written) → IsItem i item → (w : Written) × (tail : List Written) × (item ≡ w ∷ tail) × IsClassChar i.first w
first_char i (a ∷ []) h = (a, [], refl, h.0)
first_char i (a ∷ b ∷ c ∷ []) h = (a, b ∷ c ∷ [], refl, h.0)
first_char i d h = absurd h

bracket_only : (w : Written) → IsSign 93 w → (IsSign 45 w → ⊥) × (IsSign 94 w → ⊥)
bracket_only w g = by_plain (λ x. (IsSign 45 x → ⊥) × (IsSign 94 x → ⊥)) 93 w (λ o. (λ h. absurd (omega (arith, h)), λ h. absurd (omega (arith, h)))) g

-- neither a `-` nor a `^` begins the items of a class
class_prefix : (is : List Interval) (ws rest : List Written) → IsClassRest is ws → (Begins 45 (ws ++ rest) → ⊥) × (Begins 94 (ws ++ rest) → ⊥)
class_prefix [] ws rest (w, e, sign) =
    let P : List Written → Type 0 = λ x. (Begins 45 (x ++ rest) → ⊥) × (Begins 94 (x ++ rest) → ⊥) in
    subst P (sym e) (bracket_only w sign)
class_prefix (i ∷ is) ws rest (item, more, e, hi, hr) =
    let f = first_char i item hi in
    let P : List Written → Type 0 = λ x. (Begins 45 (x ++ rest) → ⊥) × (Begins 94 (x ++ rest) → ⊥) in
    subst P (sym (e ∙ ap (λ x. x ++ more) f.2)) (char_other i.first f.0 f.3)

abbrev range : ℕ → ℕ → Interval
range a b = record { first = a; last = b }

dash_step : (n d b : ℕ) (negated : Bool) (before : List Interval) (p c : ℕ) (w : Written) (ws : List Written) → IsSign 45 w
    → fault_from n (InClass d b negated before (First p c)) (w ∷ ws) ≡ fault_from n (InClass d b negated before (Dash p c)) ws
dash_step n d b negated before p c w ws h =
    by_plain (λ x. fault_from n (InClass d b negated before (First p c)) (x ∷ ws) ≡ fault_from n (InClass d b negated before (Dash p c)) ws) 45 w (λ o. refl) h

not_below : (a b : ℕ) → a ≤ b → nat_lt b a ≡ false
not_below a b h = grind (arith, nat_tests)

item_runs : (n d b : ℕ) (negated : Bool) (before : List Interval) (i : Interval) (item rest : List Written) → IsItem i item → i.first ≤ i.last → (Begins 45 rest → ⊥)
    → fault_from n (InClass d b negated before Items) (item ++ rest) ≡ fault_from n (InClass d b negated (before ++ i ∷ []) Items) rest
item_runs n d b negated before i (x ∷ []) rest h order dash =
    first_step n d b negated before i.first x rest h.0
    ∙ one_ends n d b negated before (place x) i.first rest dash
    ∙ ap (λ y. fault_from n (InClass d b negated (before ++ range i.first y ∷ []) Items) rest) (sym h.1)
item_runs n d b negated before i (x ∷ y ∷ z ∷ []) rest h order dash =
    first_step n d b negated before i.first x (y ∷ z ∷ rest) h.0
    ∙ dash_step n d b negated before (place x) i.first y (z ∷ rest) h.1
    ∙ last_step n d b negated before (place x) i.first i.last z rest h.2
    ∙ rw (not_below i.first i.last order) refl
item_runs n d b negated before i e rest h order dash = absurd h

closing_step : (n d b : ℕ) (negated : Bool) (before : List Interval) (w : Written) (ws : List Written) → IsSign 93 w
    → fault_from n (InClass d b negated before Items) (w ∷ ws) ≡ or_later (λ s. fault_from n s ws) (closed d b negated before)
closing_step n d b negated before w ws h =
    by_plain (λ x. fault_from n (InClass d b negated before Items) (x ∷ ws) ≡ or_later (λ s. fault_from n s ws) (closed d b negated before)) 93 w (λ o. refl) h

items_run : (n d b : ℕ) (negated : Bool) (before is : List Interval) (ws rest : List Written) → IsClassRest is ws → AllByRecursion (λ i. i.first ≤ i.last) is
    → fault_from n (InClass d b negated before Items) (ws ++ rest) ≡ or_later (λ s. fault_from n s rest) (closed d b negated (before ++ is))
items_run n d b negated before [] ws rest (w, e, sign) order =
    ap (λ x. fault_from n (InClass d b negated before Items) (x ++ rest)) e
    ∙ closing_step n d b negated before w rest sign
    ∙ ap (λ x. or_later (λ s. fault_from n s rest) (closed d b negated x)) (sym (append-nil before))
items_run n d b negated before (i ∷ is) ws rest (item, more, e, hi, hr) order =
    ap (fault_from n (InClass d b negated before Items)) (ap (λ x. x ++ rest) e ∙ append_assoc item more rest)
    ∙ item_runs n d b negated before i item (more ++ rest) hi order.0 (class_prefix is more rest hr).0
    ∙ items_run n d b negated (before ++ i ∷ []) is more rest hr order.1
    ∙ ap (λ x. or_later (λ s. fault_from n s rest) (closed d b negated x)) (append_assoc before (i ∷ []) is)

bracket_step : (n d : ℕ) (b : Before) (w : Written) (ws : List Written) → IsSign 91 w → fault_from n (Outside d b) (w ∷ ws) ≡ fault_from n (InClass d (place w) false [] Opened) ws
bracket_step n d b w ws h = by_plain (λ x. fault_from n (Outside d b) (x ∷ ws) ≡ fault_from n (InClass d (place x) false [] Opened) ws) 91 w (λ o. refl) h

caret_step : (n d b : ℕ) (w : Written) (ws : List Written) → IsSign 94 w → fault_from n (InClass d b false [] Opened) (w ∷ ws) ≡ fault_from n (InClass d b true [] Items) ws
caret_step n d b w ws h = by_plain (λ x. fault_from n (InClass d b false [] Opened) (x ∷ ws) ≡ fault_from n (InClass d b true [] Items) ws) 94 w (λ o. refl) h

class_runs : (d : ℕ) (negated : Bool) (is : List Interval) (ws : List Written) → IsClass negated is ws → AllByRecursion (λ i. i.first ≤ i.last) is → is_nothing negated is ≡ false → Runs Atom d ws
class_runs d negated is [] h order some n b rest = absurd h
class_runs d false is (w ∷ ws) h order some n b rest = (
  AnAtom,
  refl,
  bracket_step n d b w (ws ++ rest) h.0
      ∙ no_caret n d (place w) (ws ++ rest) (class_prefix is ws rest h.1).1
      ∙ items_run n d (place w) false [] is ws rest h.1 order
      ∙ some_member n d (place w) false is rest some,
)
class_runs d true is (w ∷ []) h order some n b rest = absurd h
class_runs d true is (w ∷ x ∷ ws) h order some n b rest = (
  AnAtom,
  refl,
  bracket_step n d b w (x ∷ ws ++ rest) h.0
      ∙ caret_step n d (place w) x (ws ++ rest) h.1
      ∙ items_run n d (place w) true [] is ws rest h.2 order
      ∙ some_member n d (place w) true is rest some,
)

-- one of the intervals holds c, passes the test, and holds nothing that the others do not
abbrev Covers : (Interval → Bool) → ℕ → List Interval → Type 0
Covers g c is =
    (i : Interval) × (i.first ≤ c) × (c ≤ i.last) × (g i ≡ true) × ((x : ℕ) → i.first ≤ x → x ≤ i.last → is_member x is ≡ true)

within_true : (x : ℕ) (i : Interval) → i.first ≤ x → x ≤ i.last → is_within x i ≡ true
within_true x i h g = grind (arith, nat_tests)

found : (g : Interval → Bool) (c : ℕ) (is : List Interval) → is_member c is ≡ true → list_all g is ≡ true → Covers g c is
found g c [] m a = cc
found g c (i ∷ is) m a =
    let both = and_parts (g i) (list_all g is) a in
    or_case (is_within c i) (is_member c is) m
    (λ h. let w = and_parts (nat_le i.first c) (nat_le c i.last) h in
    (i, le_tested i.first c w.0, le_tested c i.last w.1, both.0, λ x p q. or_left (is_within x i) (is_member x is) (within_true x i p q)))
    (λ h. let r = found g c is h both.1 in (r.0, r.1, r.2, r.3, λ x p q. or_right (is_within x i) (is_member x is) (r.4 x p q)))

abbrev is_followed : List Interval → Interval → Bool
is_followed is i = i.last == 0x10_FFFF || is_member (code_after i.last) is

-- n is in one of the intervals, or is a surrogate, and the character after those is
abbrev Passed : List Interval → ℕ → Type 0
Passed is n = (is_member n is ≡ true) ⊎ (0xD800 ≤ n) × (n ≤ 0xDFFF) × (is_member 0xE000 is ≡ true)

equal_from_test : (a b : ℕ) → (a == b) ≡ true → a ≡ b
equal_from_test a b h = grind (arith, nat_tests)

after_last : (is : List Interval) (n last : ℕ) → last ≡ n → is_member (code_after last) is ≡ true → Passed is (suc n)
after_last is n last e m =
    elim (eq_or_not last 0xD7FF) [
      | inl f ↦ let P : ℕ → Type 0 = λ x. is_member (code_after x) is ≡ true in inr (omega arith, omega arith, subst P f m)
      | inr f ↦
          let P : ℕ → Type 0 = λ x. is_member x is ≡ true in
          let k : code_after last ≡ suc n = rw (not_equal last 0xD7FF f) (omega arith) in
          inl (subst P k m)
    ]

advance : (is : List Interval) (n : ℕ) → Passed is n → list_all (is_followed is) is ≡ true → suc n ≤ 0x10_FFFF → Passed is (suc n)
advance is n (inl m) a h =
    let f = found (is_followed is) n is m a in
    let i = f.0 in
    let low : i.first ≤ n = f.1 in
    let high : n ≤ i.last = f.2 in
    elim (eq_or_not i.last n) [
      | inr e ↦ inl (f.4 (suc n) (omega arith) (omega arith))
      | inl e ↦ or_case (i.last == 0x10_FFFF) (is_member (code_after i.last) is) f.3
          (λ k. let q : i.last ≡ 0x10_FFFF = equal_from_test i.last 0x10_FFFF k in absurd (omega arith))
          (λ k. after_last is n i.last e k)
    ]
advance is n (inr s) a h =
    let low : 0xD800 ≤ n = s.0 in
    let high : n ≤ 0xDFFF = s.1 in
    let P : ℕ → Type 0 = λ x. is_member x is ≡ true in
    elim (eq_or_not n 0xDFFF) [
      | inl e ↦ let k : 0xE000 ≡ suc n = omega arith in inl (subst P k s.2)
      | inr e ↦ inr (omega arith, omega arith, s.2)
    ]

passed : (is : List Interval) (n : ℕ) → is_member 0 is ≡ true → list_all (is_followed is) is ≡ true → n ≤ 0x10_FFFF → Passed is n
passed is zero m a h = inl m
passed is (suc n) m a h = advance is n (passed is n m a (omega arith)) a h

passed_character : (is : List Interval) (c : ℕ) → IsCharacter c → Passed is c → is_member c is ≡ true
passed_character is c h (inl m) = m
passed_character is c (inl h) (inr s) = absurd (omega (arith, h, s.0))
passed_character is c (inr h) (inr s) = absurd (omega (arith, h.0, s.1))

at_most : (c : ℕ) → IsCharacter c → c ≤ 0x10_FFFF
at_most c (inl h) = omega arith
at_most c (inr h) = h.1

everything : (is : List Interval) → is_everything is ≡ true → (c : ℕ) → IsCharacter c → is_member c is ≡ true
everything is h c char =
    let e = and_parts (is_member 0 is) (list_all (is_followed is) is) h in
    passed_character is c char (passed is c e.0 e.1 (at_most c char))

unlike : (b : Bool) → not b ≡ true → b ≡ true → ⊥
unlike true h g = cc
unlike false h g = cc

not_nothing : (negated : Bool) (is : List Interval) → (c : ℕ) × IsCharacter c × (is_in_class negated is c ≡ true) → is_nothing negated is ≡ false
not_nothing true is (c, char, h) = false_from_ne_true (is_everything is) (λ e. unlike (is_member c is) h (everything is e c char))
not_nothing false [] (c, char, h) = cc
not_nothing false (i ∷ is) h = refl

runs : {l : Level} {d : ℕ} {e : Expression} {ws : List Written} → SpellsAt l d e ws → IsWellMade e → Runs l d ws
runs (choice d us vs ws w f sign s t) m = choice_runs d us vs ws w f sign (runs s m.0) (runs t m.1)
runs (sequence d us vs ws f s t) m = sequence_runs d us vs ws f (runs s m.0) (runs t m.1)
runs (star d us ws w f sign s) m = sign_runs d us ws w f (by_plain (Repeats d) 42 w (λ o n ws. refl) sign) (runs s m)
runs (plus d us ws w f sign s) m = sign_runs d us ws w f (by_plain (Repeats d) 43 w (λ o n ws. refl) sign) (runs s m)
runs (optional d us ws w f sign s) m = sign_runs d us ws w f (by_plain (Repeats d) 63 w (λ o n ws. refl) sign) (runs s m)
runs (literal d v ws h) m = literal_runs d v.items ws h m
runs (class d negated v ws h) m = class_runs d negated v.items ws h m.0 (not_nothing negated v.items m.1)
runs (group d us ws w x f opens closes small s) m = group_runs d us ws w x f opens closes small (runs s m)
runs (one_seq d ws s) m = runs s m
runs (one_rep d ws s) m = runs s m
runs (one_atom d ws s) m = atom_runs d ws (runs s m)
runs (blank_before l d us w blank s) m = before_runs l d us w blank (runs s m)
runs (blank_after l d us ws w f blank s) m = after_runs l d us ws w f blank (runs s m)

ended : (n : ℕ) (b : Before) → is_something b ≡ true → fault_from n (Outside 0 b) [] ≡ None
ended n Nothing h = cc
ended n d h = refl

-- a text that spells a well made expression has no fault
pub accepted : (t : List ℕ) (e : Expression) → Spells e t → IsWellMade e → first_fault t ≡ None
unfolding first_fault
accepted t e s m =
    let n = length t in
    let one = runs s m n Nothing [] in
    ap (fault_from n (Outside 0 Nothing)) (sym (append-nil (written 0 t))) ∙ one.2 ∙ ended n one.0 one.1

clash : (o : Option PatternFault) (f : PatternFault) → o ≡ Some f → o ≡ None → ⊥
clash o f g h = cc

-- a text with a fault is no pattern's
pub refused : (t : List ℕ) (f : PatternFault) → IsFault t f → (e : Expression) → IsPattern t e → ⊥
refused t f (inl g) e h = clash (first_fault t) f g (accepted t e h.spelled h.well_made)
refused t f (inr (none, is, (g, s, m))) e h =
    h.not_empty ((one_meaning t e g h.spelled s []).1 m)
