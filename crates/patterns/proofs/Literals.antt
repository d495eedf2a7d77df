-- Literals and classes that are read so far.
use Rattle.patterns.proofs.Std.{◌≡◌, ◌≢◌, ◌⊎◌, inl, inr, ℕ, ◌==◌, Bool, true, false, List, [], ◌∷◌, ◌++◌, Some, refl, sym, ◌∙◌, ap, subst, append_assoc, arith, list_all, append-nil, list_all-append, nat_tests}
use Rattle.patterns.proofs.Common.{Interval, Syntax, Written, Plain, Escaped, BadEscape, InLiteral, InClass, Items, First, Dash, Opened, fault_from, or_later, char_in_class, IsSign, IsLiteralChar, IsLiteralRest, IsClassChar, IsClassRest, is_nothing, closed, EmptyClass, Outside, AnAtom}
use Rattle.patterns.proofs.Common.{IsLiteralPrefix, IsClassPrefix, IsItemPrefix, Begins, HasNoClassChar, place, place_of, HasNoLiteralChar, is_empty, IsCaret, IsClassBody}

-- what holds of a sign that is written as itself holds of each word that is that sign
pub by_plain : (P : Written → Type 0) (c : ℕ) (w : Written) → ((o : ℕ) → P (Plain o c)) → IsSign c w → P w
by_plain P c (Plain o x) p h = let Q : ℕ → Type 0 = λ y. P (Plain o y) in subst Q h (p o)
by_plain P c d p h = absurd h

-- `us` and whatever has P after it have Q, with the items `v` first
abbrev pub GoesOn : {A : Type 0} → (P Q : List A → List Written → Type 0) → List A → List Written → Type 0
GoesOn {A = A} P Q v us = (more : List A) (then : List Written) → P more then → Q (v ++ more) (us ++ then)

pub one_more : {A : Type 0} (P Q : List A → List Written → Type 0) (v : List A) (c : A) (us ws : List Written) → GoesOn P Q v us
    → ((more : List A) (then : List Written) → P more then → P (c ∷ more) (ws ++ then)) → GoesOn P Q (v ++ c ∷ []) (us ++ ws)
one_more {A = A} P Q v c us ws goes longer more then h =
    let R : List A → Type 0 = λ x. Q x ((us ++ ws) ++ then) in
    let S : List Written → Type 0 = λ x. Q (v ++ c ∷ more) x in
    subst R (sym (append_assoc v (c ∷ []) more)) (subst S (sym (append_assoc us ws then)) (goes (c ∷ more) (ws ++ then) (longer more then h)))

-- after ws come v's characters, and then vs
abbrev pub IsLiteralSoFar : List ℕ → List Written → List Written → Type 0
IsLiteralSoFar v ws vs = (us : List Written) × (ws ≡ us ++ vs) × GoesOn IsLiteralRest IsLiteralRest v us

abbrev pub IsClassSoFar : List Interval → List Written → List Written → Type 0
IsClassSoFar is ws vs = (us : List Written) × (ws ≡ us ++ vs) × GoesOn IsClassRest IsClassRest is us

pub one_more_literal : (v : List ℕ) (c : ℕ) (ws vs rest : List Written) (w : Written) → IsLiteralSoFar v ws vs → vs ≡ w ∷ rest → IsLiteralChar c w → IsLiteralSoFar (v ++ c ∷ []) ws rest
one_more_literal v c ws vs rest w (us, e, goes) f char =
    (us ++ w ∷ [], e ∙ ap (λ x. us ++ x) f ∙ sym (append_assoc us (w ∷ []) rest), one_more IsLiteralRest IsLiteralRest v c us (w ∷ []) goes (λ more then h. (char, h)))

pub literal_closed : (v : List ℕ) (o : ℕ) (ws vs rest : List Written) → IsLiteralSoFar v ws vs → vs ≡ Plain o 34 ∷ rest → IsLiteralPrefix v ws rest
literal_closed v o ws vs rest (us, e, goes) f =
    let Q : List ℕ → Type 0 = λ x. IsLiteralRest x (us ++ Plain o 34 ∷ []) in
    (us ++ Plain o 34 ∷ [], e ∙ ap (λ x. us ++ x) f ∙ sym (append_assoc us (Plain o 34 ∷ []) rest), subst Q (append-nil v) (goes [] (Plain o 34 ∷ []) (refl, refl)))

pub not_equal : (a b : ℕ) → a ≢ b → (a == b) ≡ false
not_equal a b h = grind (arith, nat_tests)

pub literal_step : (n d q : ℕ) (empty : Bool) (c : ℕ) (w : Written) (ws : List Written) → IsLiteralChar c w → fault_from n (InLiteral d q empty) (w ∷ ws) ≡ fault_from n (InLiteral d q false) ws
literal_step n d q empty c (Plain o x) ws h = rw (not_equal x 34 h.1) refl
literal_step n d q empty c (Escaped o x) ws h = refl
literal_step n d q empty c (BadEscape o) ws h = absurd h

pub eq_or_not : (a b : ℕ) → (a ≡ b) ⊎ (a ≢ b)
eq_or_not a b = grind (arith, nat_tests)

-- `c` is a sign of classes, or it is none of them
by_sign : (P : ℕ → Type 0) (c : ℕ) → P 93 → P 45 → P 94 → (c ≢ 93 → c ≢ 45 → c ≢ 94 → P c) → P c
by_sign P c closing dash caret other =
    elim (eq_or_not c 93) [
      | inl e ↦ subst P (sym e) closing
      | inr not_93 ↦ elim (eq_or_not c 45) [ inl e ↦ subst P (sym e) dash | inr not_45 ↦ elim (eq_or_not c 94) [ inl e ↦ subst P (sym e) caret | inr not_94 ↦ other not_93 not_45 not_94 ] ]
    ]

-- where no item begins
pub no_item : (n : ℕ) (ws : List Written) → HasNoClassChar ws → (Begins 93 ws → ⊥) → (d b : ℕ) (negated : Bool) (before : List Interval)
    → fault_from n (InClass d b negated before Items) ws ≡ Some (record { at = place_of n ws; cause = Syntax })
no_item n (Plain o c ∷ ws) none h d b negated before =
    let P : ℕ → Type 0 = λ x. (93 ≡ x → ⊥) → fault_from n (InClass d b negated before Items) (Plain o x ∷ ws) ≡ Some (record { at = o; cause = Syntax }) in
    by_sign P c (λ g. absurd (g refl)) (λ g. refl) (λ g. refl) (λ p q r g. absurd (none c (refl, p, q, r))) h
no_item n (Escaped o c ∷ ws) none h d b negated before = absurd (none c refl)
no_item n e none h d b negated before = refl

-- a first character and a `-`, after which none begins
pub no_last : (n : ℕ) (ws : List Written) → HasNoClassChar ws → (d b : ℕ) (negated : Bool) (before : List Interval) (p a : ℕ)
    → fault_from n (InClass d b negated before (Dash p a)) ws ≡ Some (record { at = place_of n ws; cause = Syntax })
no_last n (Plain o c ∷ ws) none d b negated before p a =
    let P : ℕ → Type 0 = λ x. fault_from n (InClass d b negated before (Dash p a)) (Plain o x ∷ ws) ≡ Some (record { at = o; cause = Syntax }) in
    by_sign P c refl refl refl (λ q r s. absurd (none c (refl, q, r, s)))
no_last n (Escaped o c ∷ ws) none d b negated before p a = absurd (none c refl)
no_last n e none d b negated before p a = refl

-- the first character of an item
pub first_step : (n d b : ℕ) (negated : Bool) (before : List Interval) (c : ℕ) (w : Written) (ws : List Written) → IsClassChar c w
    → fault_from n (InClass d b negated before Items) (w ∷ ws) ≡ fault_from n (InClass d b negated before (First (place w) c)) ws
first_step n d b negated before c (Plain o x) ws h =
    let P : ℕ → Type 0 = λ y. fault_from n (InClass d b negated before Items) (Plain o x ∷ ws) ≡ fault_from n (InClass d b negated before (First o y)) ws in
    subst P (sym h.0) (rw (not_equal x 93 h.1, not_equal x 45 h.2, not_equal x 94 h.3) refl)
first_step n d b negated before c (Escaped o x) ws h =
    let P : ℕ → Type 0 = λ y. fault_from n (InClass d b negated before Items) (Escaped o x ∷ ws) ≡ fault_from n (InClass d b negated before (First o y)) ws in
    subst P (sym h) refl
first_step n d b negated before c (BadEscape o) ws h = absurd h

-- a last character
pub last_step : (n d b : ℕ) (negated : Bool) (before : List Interval) (p a c : ℕ) (w : Written) (ws : List Written) → IsClassChar c w
    → fault_from n (InClass d b negated before (Dash p a)) (w ∷ ws) ≡ or_later (λ s. fault_from n s ws) (char_in_class d b negated before (Dash p a) (place w) c)
last_step n d b negated before p a c (Plain o x) ws h =
    let P : ℕ → Type 0 = λ y. fault_from n (InClass d b negated before (Dash p a)) (Plain o x ∷ ws) ≡ or_later (λ s. fault_from n s ws) (char_in_class d b negated before (Dash p a) o y) in
    subst P (sym h.0) (rw (not_equal x 93 h.1, not_equal x 45 h.2, not_equal x 94 h.3) refl)
last_step n d b negated before p a c (Escaped o x) ws h =
    let P : ℕ → Type 0 = λ y. fault_from n (InClass d b negated before (Dash p a)) (Escaped o x ∷ ws) ≡ or_later (λ s. fault_from n s ws) (char_in_class d b negated before (Dash p a) o y) in
    subst P (sym h) refl
last_step n d b negated before p a c (BadEscape o) ws h = absurd h

-- an item of one character, where no `-` follows
pub one_ends : (n d b : ℕ) (negated : Bool) (before : List Interval) (p c : ℕ) (ws : List Written) → (Begins 45 ws → ⊥) → fault_from n (InClass d b negated before (First p c)) ws
    ≡ fault_from n (InClass d b negated (before ++ record { first = c; last = c } ∷ []) Items) ws
one_ends n d b negated before p c (Plain o x ∷ ws) h =
    let P : ℕ → Type 0 = λ y. (45 ≡ y → ⊥) → fault_from n (InClass d b negated before (First p c)) (Plain o y ∷ ws) ≡ fault_from n
    (InClass d b negated (before ++ record { first = c; last = c } ∷ []) Items) (Plain o y ∷ ws) in
    by_sign P x (λ g. refl) (λ g. absurd (g refl)) (λ g. refl) (λ q r s g. rw (not_equal x 93 q, not_equal x 45 r, not_equal x 94 s) refl) h
one_ends n d b negated before p c e h = refl

-- a class, after its bracket, where no `^` follows
pub no_caret : (n d b : ℕ) (ws : List Written) → (Begins 94 ws → ⊥) → fault_from n (InClass d b false [] Opened) ws ≡ fault_from n (InClass d b false [] Items) ws
no_caret n d b (Plain o x ∷ ws) h =
    let P : ℕ → Type 0 = λ y. (94 ≡ y → ⊥) → fault_from n (InClass d b false [] Opened) (Plain o y ∷ ws) ≡ fault_from n (InClass d b false [] Items) (Plain o y ∷ ws) in
    by_sign P x (λ g. refl) (λ g. refl) (λ g. absurd (g refl)) (λ p q r g. rw (not_equal x 93 p, not_equal x 45 q, not_equal x 94 r) refl) h
no_caret n d b e h = refl

-- a class, after its bracket and the `^` that may follow
pub caret_step : (n d b : ℕ) (negated : Bool) (ws vs : List Written) → IsCaret negated ws vs → fault_from n (InClass d b false [] Opened) ws ≡ fault_from n (InClass d b negated [] Items) vs
caret_step n d b false ws vs (e, none) = no_caret n d b ws none ∙ ap (fault_from n (InClass d b false [] Items)) e
caret_step n d b true ws vs (o, e) = ap (fault_from n (InClass d b false [] Opened)) e

pub caret_body : (negated : Bool) (is : List Interval) (ws vs rest : List Written) → IsCaret negated ws vs → IsClassPrefix is vs rest → IsClassBody negated is ws rest
caret_body false is ws vs rest (e, none) h = rw e h
caret_body true is ws vs rest (o, e) h = (Plain o 94, vs, e, refl, h)

-- a class, after its closing bracket
pub no_member : (n d b : ℕ) (negated : Bool) (is : List Interval) (rest : List Written) → is_nothing negated is ≡ true
    → or_later (λ s. fault_from n s rest) (closed d b negated is) ≡ Some (record { at = b; cause = EmptyClass })
no_member n d b negated is rest h = rw h refl

pub some_member : (n d b : ℕ) (negated : Bool) (is : List Interval) (rest : List Written) → is_nothing negated is ≡ false
    → or_later (λ s. fault_from n s rest) (closed d b negated is) ≡ fault_from n (Outside d AnAtom) rest
some_member n d b negated is rest h = rw h refl

pub one_more_item : (is : List Interval) (i : Interval) (ws vs rest : List Written) → IsClassSoFar is ws vs → IsItemPrefix i vs rest → IsClassSoFar (is ++ i ∷ []) ws rest
one_more_item is i ws vs rest (us, e, goes) (item, f, h) =
    (us ++ item, e ∙ ap (λ x. us ++ x) f ∙ sym (append_assoc us item rest), one_more IsClassRest IsClassRest is i us item goes (λ more then g. (item, then, refl, h, g)))

pub class_closed : (is : List Interval) (o : ℕ) (ws vs rest : List Written) → IsClassSoFar is ws vs → vs ≡ Plain o 93 ∷ rest → IsClassPrefix is ws rest
class_closed is o ws vs rest (us, e, goes) f =
    let Q : List Interval → Type 0 = λ x. IsClassRest x (us ++ Plain o 93 ∷ []) in
    (us ++ Plain o 93 ∷ [], e ∙ ap (λ x. us ++ x) f ∙ sym (append_assoc us (Plain o 93 ∷ []) rest), subst Q (append-nil is) (goes [] (Plain o 93 ∷ []) (Plain o 93, refl, refl)))

pub all_and_one : (p : Interval → Bool) (is : List Interval) (i : Interval) → list_all p is ≡ true → p i ≡ true → list_all p (is ++ i ∷ []) ≡ true
all_and_one p is i h g = rw (list_all-append p is (i ∷ []), h, g) refl

-- where no character of a literal stands
pub no_literal_char : (n : ℕ) (ws : List Written) → HasNoLiteralChar ws → (Begins 34 ws → ⊥) → (d q : ℕ) (empty : Bool)
    → fault_from n (InLiteral d q empty) ws ≡ Some (record { at = place_of n ws; cause = Syntax })
no_literal_char n (Plain o c ∷ ws) none h d q empty = absurd (none c (refl, λ e. h (sym e)))
no_literal_char n (Escaped o c ∷ ws) none h d q empty = absurd (none c refl)
no_literal_char n e none h d q empty = refl

pub not_empty_after : (v : List ℕ) (c : ℕ) → is_empty (v ++ c ∷ []) ≡ false
not_empty_after [] c = refl
not_empty_after (x ∷ v) c = refl
