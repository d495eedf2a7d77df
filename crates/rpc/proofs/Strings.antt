-- The strings of a JSON text in UTF-8 are in UTF-8 themselves: from its bytes to its strings, its tokens and its values.
use Rattle.rpc.proofs.Std.{◌≡◌, ℕ, ◌+◌, ◌*◌, ◌<◌, Bool, true, false, cond, ◌&&◌, ◌||◌, ◌==◌, List, [], ◌∷◌, ◌++◌, length, drop, get_or, Option, Some, None, IfSome, option_map, option_and_then, IsUtf8, refl, sym, ap, ◌∙◌, subst, nat_lt, IsScalar, is_digit, digit_value, encode_utf8}
use Rattle.rpc.proofs.Std.{arith, length-append, take_at, drop_at, get_or-append_seam, cond_both, and_parts, eqb-true, ltb-true, IsUtf8-append, IsUtf8-encode, encode_ascii, IsUtf8-take, IsUtf8-drop, IsCharBoundary-before_ascii, IsCharBoundary-after_ascii, low_scalar}
use Rattle.rpc.proofs.Std.{Within, plain, after_backslash, after_u, after_high, content, prepend, code_unit, short_escape, is_high_surrogate, is_low_surrogate, surrogate_pair}
use Rattle.std.proofs.Common.{append_assoc, append-nil}
use Rattle.json.specs.Ascii as ascii

-- ---- an option's value

pub if_map : {A B : Type 0} (P : A → Type 0) (Q : B → Type 0) (f : A → B) (o : Option A) → ((a : A) → P a → Q (f a)) → IfSome o P → IfSome (option_map f o) Q
if_map P Q f None step h = tt
if_map P Q f (Some a) step h = step a h

pub if_then : {A B : Type 0} (P : A → Type 0) (Q : B → Type 0) (f : A → Option B) (o : Option A) → ((a : A) → P a → IfSome (f a) Q) → IfSome o P → IfSome (option_and_then f o) Q
if_then P Q f None step h = tt
if_then P Q f (Some a) step h = step a h

cond_if : {A : Type 0} (P : A → Type 0) (b : Bool) (o p : Option A) → (b ≡ true → IfSome o P) → (b ≡ false → IfSome p P) → IfSome (cond b o p) P
cond_if P b o p at_true at_false = cond_both b o p (λ r. IfSome r P) at_true at_false

pub cond_either : {A : Type 0} (P : A → Type 0) (b : Bool) (x y : A) → P x → P y → P (cond b x y)
cond_either P b x y at_true at_false = cond_both b x y P (λ _. at_true) (λ _. at_false)

-- ---- UTF-8 about an ASCII byte

-- what stands before an ASCII byte, and after it
pub before_ascii : (f xs : List ℕ) (x : ℕ) → x < 128 → IsUtf8 (f ++ x ∷ xs) → IsUtf8 f
before_ascii f xs x small u =
    let byte : get_or (f ++ x ∷ xs) (length f) 0 < 128 = rw (get_or-append_seam f x xs 0) small in
    let cut = IsUtf8-take (f ++ x ∷ xs) (length f) u (IsCharBoundary-before_ascii (f ++ x ∷ xs) (length f) (omega (arith, length-append f (x ∷ xs))) byte) in
    subst IsUtf8 (take_at f (x ∷ xs) (length f) refl) cut

pub past_ascii : (f xs : List ℕ) (x : ℕ) → x < 128 → IsUtf8 (f ++ x ∷ xs) → IsUtf8 xs
past_ascii f xs x small u =
    let byte : get_or (f ++ x ∷ xs) (length f) 0 < 128 = rw (get_or-append_seam f x xs 0) small in
    let cut = IsUtf8-drop (f ++ x ∷ xs) (length f + 1) u (IsCharBoundary-after_ascii (f ++ x ∷ xs) (length f) u (omega (arith, length-append f (x ∷ xs))) byte) in
    subst IsUtf8 (ap (drop (length f + 1)) (sym (append_assoc f (x ∷ []) xs)) ∙ drop_at (f ++ x ∷ []) xs (length f + 1) (length-append f (x ∷ []))) cut

pub IsUtf8-one : (x : ℕ) → x < 128 → IsUtf8 (x ∷ [])
IsUtf8-one x small = subst IsUtf8 (encode_ascii x small) (IsUtf8-encode x (low_scalar x (omega arith)))

pub one_more : (f xs : List ℕ) (x : ℕ) → IsUtf8 (f ++ x ∷ xs) → IsUtf8 ((f ++ x ∷ []) ++ xs)
one_more f xs x u = subst IsUtf8 (sym (append_assoc f (x ∷ []) xs)) u

pub byte_small : {x y : ℕ} → (x == y) ≡ true → y < 128 → x < 128
byte_small {x} {y} e small = subst (λ z. z < 128) (sym (eqb-true x y e)) small

-- ---- escapes

escape_small : (x : ℕ) → IfSome (short_escape x) (λ c. (c < 128) × (x < 128))
unfolding short_escape
escape_small x =
    let P : ℕ → Type 0 = λ c. (c < 128) × (x < 128) in
    cond_if P ((x == ascii.quote) || (x == ascii.backslash) || (x == ascii.slash)) (Some x) _ (λ e. (same_small x e, same_small x e))
    (λ _. cond_if P (x == ascii.lower_b) (Some ascii.backspace) _ (λ e. (omega arith, byte_small e (omega arith)))
    (λ _. cond_if P (x == ascii.lower_f) (Some ascii.form_feed) _ (λ e. (omega arith, byte_small e (omega arith)))
    (λ _. cond_if P (x == ascii.lower_n) (Some ascii.line_feed) _ (λ e. (omega arith, byte_small e (omega arith)))
    (λ _. cond_if P (x == ascii.lower_r) (Some ascii.carriage_return) _ (λ e. (omega arith, byte_small e (omega arith)))
    (λ _. cond_if P (x == ascii.lower_t) (Some ascii.tab) None (λ e. (omega arith, byte_small e (omega arith))) (λ _. tt))))))
  where
    same_small : (x : ℕ) → ((x == 34) || (x == 92) || (x == 47)) ≡ true → x < 128
    same_small x e = grind arith

digit_small : (x : ℕ) → is_digit x 16 ≡ true → x < 128
digit_small x e = grind arith

digit_below : (x : ℕ) → is_digit x 16 ≡ true → digit_value x < 16
digit_below x e = ltb-true _ _ e

-- ---- the content of a string

-- what is needed of the bytes before, f, and of those left, for a reading of them to be in UTF-8
abbrev Starts : Within → List ℕ → List ℕ → Type 0
Starts plain f xs = IsUtf8 (f ++ xs)
Starts after_backslash f xs = IsUtf8 f × IsUtf8 xs
Starts after_u f xs = IsUtf8 f × IsUtf8 xs
Starts (after_high h) f xs = IsUtf8 f × IsUtf8 xs × (is_high_surrogate h ≡ true)

prepended : (f g : List ℕ) (o : Option (List ℕ)) → IfSome o (λ s. IsUtf8 ((f ++ g) ++ s)) → IfSome (prepend g o) (λ s. IsUtf8 (f ++ s))
prepended f g o = if_map (λ s. IsUtf8 ((f ++ g) ++ s)) (λ s. IsUtf8 (f ++ s)) (λ s. g ++ s) o (λ s u. subst IsUtf8 (append_assoc f g s) u)

unit_of : (a b c d : ℕ) → IfSome (code_unit a b c d) (λ u. (u < 65536) × (d < 128))
unfolding code_unit
unit_of a b c d =
    cond_if (λ u. (u < 65536) × (d < 128)) (is_digit a 16 && is_digit b 16 && is_digit c 16 && is_digit d 16) _ _
    (λ e. within (is_digit a 16) (is_digit b 16) (is_digit c 16) (is_digit d 16) refl refl refl refl e) (λ _. tt)
  where
    within : (p q r s : Bool) → p ≡ is_digit a 16 → q ≡ is_digit b 16 → r ≡ is_digit c 16 → s ≡ is_digit d 16 → (p && q && r && s) ≡ true
        → (digit_value a * 4096 + digit_value b * 256 + digit_value c * 16 + digit_value d < 65536) × (d < 128)
    within p q r s ep eq er es all =
        let last = and_parts (p && q && r) s all in
        let three = and_parts (p && q) r last.0 in
        let two = and_parts p q three.0 in
        let wa = digit_below a (sym ep ∙ two.0) in
        let wb = digit_below b (sym eq ∙ two.1) in
        let wc = digit_below c (sym er ∙ three.1) in
        let wd = digit_below d (sym es ∙ last.1) in
        (omega (arith, wa, wb, wc, wd), digit_small d (sym es ∙ last.1))

lone_unit : (u : ℕ) → u < 65536 → is_high_surrogate u ≡ false → is_low_surrogate u ≡ false → IsScalar u
lone_unit u small high low = grind arith

pair_is : (h l : ℕ) → is_high_surrogate h ≡ true → is_low_surrogate l ≡ true → IsScalar (surrogate_pair h l)
pair_is h l high low = grind arith

-- The content of a string is in UTF-8 where the text is. A byte that is not ASCII is passed as it stands, so f may end within a character.
pub content-utf8 : (w : Within) (f xs : List ℕ) → Starts w f xs → IfSome (content w xs) (λ s. IsUtf8 (f ++ s))
unfolding content
content-utf8 plain f (x ∷ xs) u =
    let P : List ℕ → Type 0 = λ s. IsUtf8 (f ++ s) in
    cond_if P (x == ascii.quote) (Some []) _ (λ e. subst IsUtf8 (sym (append-nil f)) (before_ascii f xs x (byte_small e (omega arith)) u))
    (λ _. cond_if P (x == ascii.backslash) (content after_backslash xs) _
    (λ e. content-utf8 after_backslash f xs (before_ascii f xs x (byte_small e (omega arith)) u, past_ascii f xs x (byte_small e (omega arith)) u))
    (λ _. cond_if P (nat_lt x ascii.space) None (prepend (x ∷ []) (content plain xs)) (λ _. tt)
    (λ _. prepended f (x ∷ []) (content plain xs) (content-utf8 plain (f ++ x ∷ []) xs (one_more f xs x u)))))
content-utf8 after_backslash f (x ∷ xs) u =
    let P : List ℕ → Type 0 = λ s. IsUtf8 (f ++ s) in
    cond_if P (x == ascii.lower_u) (content after_u xs) _ (λ e. content-utf8 after_u f xs (u.0, past_ascii [] xs x (byte_small e (omega arith)) u.1))
    (λ _. if_then (λ c. (c < 128) × (x < 128)) P (λ c. prepend (c ∷ []) (content plain xs)) (short_escape x)
    (λ c small. prepended f (c ∷ []) (content plain xs)
    (content-utf8 plain (f ++ c ∷ []) xs (IsUtf8-append _ _ (IsUtf8-append _ _ u.0 (IsUtf8-one c small.0)) (past_ascii [] xs x small.1 u.1))))
    (escape_small x))
content-utf8 after_u f (a ∷ b ∷ c ∷ d ∷ xs) u =
    let P : List ℕ → Type 0 = λ s. IsUtf8 (f ++ s) in
    if_then (λ v. (v < 65536) × (d < 128)) P
    (λ v. cond (is_high_surrogate v) (content (after_high v) xs) (cond (is_low_surrogate v) None (prepend (encode_utf8 v) (content plain xs)))) (code_unit a b c d)
    (λ v small. let rest = past_ascii (a ∷ b ∷ c ∷ []) xs d small.1 u.1 in
    cond_if P (is_high_surrogate v) (content (after_high v) xs) _ (λ high. content-utf8 (after_high v) f xs (u.0, rest, high))
    (λ high. cond_if P (is_low_surrogate v) None (prepend (encode_utf8 v) (content plain xs)) (λ _. tt)
    (λ low. prepended f (encode_utf8 v) (content plain xs)
    (content-utf8 plain (f ++ encode_utf8 v) xs (IsUtf8-append _ _ (IsUtf8-append _ _ u.0 (IsUtf8-encode v (lone_unit v small.0 high low))) rest)))))
    (unit_of a b c d)
content-utf8 (after_high h) f (s ∷ v ∷ a ∷ b ∷ c ∷ d ∷ xs) u =
    let P : List ℕ → Type 0 = λ t. IsUtf8 (f ++ t) in
    cond_if P ((s == ascii.backslash) && (v == ascii.lower_u))
    (option_and_then (λ l. cond (is_low_surrogate l) (prepend (encode_utf8 (surrogate_pair h l)) (content plain xs)) None) (code_unit a b c d)) None
    (λ _. if_then (λ l. (l < 65536) × (d < 128)) P (λ l. cond (is_low_surrogate l) (prepend (encode_utf8 (surrogate_pair h l)) (content plain xs)) None) (code_unit a b c d)
    (λ l small. cond_if P (is_low_surrogate l) (prepend (encode_utf8 (surrogate_pair h l)) (content plain xs)) None
    (λ low. prepended f (encode_utf8 (surrogate_pair h l)) (content plain xs)
    (content-utf8 plain (f ++ encode_utf8 (surrogate_pair h l)) xs
    (IsUtf8-append _ _ (IsUtf8-append _ _ u.0 (IsUtf8-encode (surrogate_pair h l) (pair_is h l u.2 low))) (past_ascii (s ∷ v ∷ a ∷ b ∷ c ∷ []) xs d small.1 u.1))))
    (λ _. tt))
    (unit_of a b c d))
    (λ _. tt)
content-utf8 w f xs u = tt
