-- What clap makes of a word: each is `--`, a flag or a path, and every flag is refused.
use Rattle.commands.proofs.Std.{◌==◌, ◌≡◌, ◌∙◌, ◌⊎◌, inl, inr, ℕ, Bool, true, false, refl, sym, ap, subst, List, [], ◌∷◌, drop, Option, Some, None, codes, cases_Bool, IsUtf8, bytes_eq, chars, encodes, chars_past_char, encodes-chars, eqb-true, bytes_eq-Decides, slice_get, encode_utf8}
use Rattle.commands.proofs.Std.{long_of, name_and_value, short_of, Kinds, or_else, Held, Row, Rule, Text, arg_by_long, arg_by_short, reacted, filled, help_rule, flag_word_fault, flags_fault, long_fault, react_fault, short_fault, settle_fault}
use Rattle.commands.proofs.Common.{is_flag}

pub no_first : (a b : Kinds) → or_else a b ≡ [] → a ≡ []
no_first [] b e = refl
no_first (k ∷ ks) b e = e

pub no_second : (a b : Kinds) → or_else a b ≡ [] → b ≡ []
no_second [] b e = e
no_second (k ∷ ks) b e = cc

abbrev pub help : Rule
help = filled help_rule

-- `-h` and `--help` are all the flags that there are
pub record HasHelpAlone (c : List Rule) : Type 0 where
  pub long : (name : Text) → (arg_by_long c name ≡ None) ⊎ (arg_by_long c name ≡ Some help)
  pub short : (y : ℕ) → (arg_by_short c y ≡ None) ⊎ (arg_by_short c y ≡ Some help)

help_fails : (c : List Rule) (again : Bool) (h : Held) → react_fault c again help [] h ≡ [] → ⊥
help_fails c again h e = let bad = no_second (settle_fault c again h) _ e in cc

long_fails : (c : List Rule) (again : Bool) (found : Option Rule) (v : Option Text) (h : Held) → (found ≡ None) ⊎ (found ≡ Some help) → long_fault c again found v h ≡ [] → ⊥
long_fails c again found v h (inl none) e = let bad = rw none at e in cc
long_fails c again found None h (inr some) e = help_fails c again h (rw some at e)
long_fails c again found (Some x) h (inr some) e = let bad = rw some at e in cc

short_fails : (c : List Rule) (again : Bool) (found : Option Rule) (rest : Text) (h : Held) (next : Held → Kinds) → (found ≡ None) ⊎ (found ≡ Some help)
    → short_fault c again found rest h next ≡ [] → ⊥
short_fails c again found rest h next (inl none) e = let bad = rw none at e in cc
short_fails c again found rest h next (inr some) e = help_fails c again h (no_first _ (next (reacted c help [] h)) (rw some at e))

-- `--NAME`, `--NAME=VALUE`, or letters after one hyphen
abbrev pub IsFlagWord : Text → Type 0
IsFlagWord word = (bytes_eq word (codes "--") ≡ false)
    × (((p : Text × Option Text) × (long_of word ≡ Some p))
    ⊎ ((b : ℕ) × (bs : Text) × (y : ℕ) × (long_of word ≡ None) × (short_of word ≡ Some (b ∷ bs)) × (slice_get (chars (b ∷ bs)) 0 ≡ Some y)))

pub flag_fails : (c : List Rule) (again : Bool) (word : Text) (rows : List Row) (pending : Option (Text × List Text)) → HasHelpAlone c → IsFlagWord word
    → flag_word_fault c again (long_of word) word (record { rows = rows; pending = pending; skip = 0 }) ≡ [] → ⊥
unfolding flags_fault
flag_fails c again word rows pending only (apart, inl long) e =
    long_fails c again (arg_by_long c long.0.0) long.0.1 (record { rows = rows; pending = pending; skip = 0 }) (only.long long.0.0) (rw long.1 at e)
flag_fails c again word rows pending only (apart, inr s) e =
    short_fails c again (arg_by_short c s.2) _ (record { rows = rows; pending = pending; skip = 0 }) _ (only.short s.2) (rw (s.3, s.4, s.5) at e)

abbrev pub IsPath : Text → Type 0
IsPath word = (bytes_eq word (codes "--") ≡ false) × (long_of word ≡ None) × (short_of word ≡ None)

-- a text that isn't empty has a first character
first_char : (b : ℕ) (bs : Text) → IsUtf8 (45 ∷ b ∷ bs) → (y : ℕ) × (slice_get (chars (b ∷ bs)) 0 ≡ Some y)
unfolding encode_utf8
first_char b bs utf8 = go (chars (b ∷ bs)) refl
  where
    rest_is : encodes (chars (b ∷ bs)) ≡ b ∷ bs
    rest_is =
        let split = chars_past_char (45 ∷ b ∷ bs) (b ∷ bs) 45 utf8 refl in
        let all : encodes (45 ∷ chars (b ∷ bs)) ≡ 45 ∷ b ∷ bs = ap encodes (sym split) ∙ encodes-chars (45 ∷ b ∷ bs) utf8 in
        ap (λ l. drop 1 l) all

    go : (cs : List ℕ) → chars (b ∷ bs) ≡ cs → (y : ℕ) × (slice_get (chars (b ∷ bs)) 0 ≡ Some y)
    go [] e = let bad : encodes [] ≡ b ∷ bs = ap encodes (sym e) ∙ rest_is in cc
    go (y ∷ ys) e = (y, rw e refl)

-- each word is `--`, a flag or a path
abbrev pub Kind : Text → Type 0
Kind word = (word ≡ codes "--") ⊎ ((is_flag word ≡ true) × IsFlagWord word) ⊎ ((is_flag word ≡ false) × IsPath word)

long_kind : (r : Text) → bytes_eq (45 ∷ 45 ∷ r) (codes "--") ≡ false → (p : Text × Option Text) × (long_of (45 ∷ 45 ∷ r) ≡ Some p)
long_kind [] e = cc
long_kind (x ∷ r) e = (name_and_value (x ∷ r), refl)

kind_at : (c d : ℕ) (r : Text) → IsUtf8 (c ∷ d ∷ r) → bytes_eq (c ∷ d ∷ r) (codes "--") ≡ false → Kind (c ∷ d ∷ r)
kind_at c d r utf8 apart = elim (cases_Bool (c == 45)) [ inl e ↦ hyphen (eqb-true c 45 e) | inr e ↦ inr (inr (e, (apart, rw e refl, rw e refl))) ]
  where
    second : IsUtf8 (45 ∷ d ∷ r) → bytes_eq (45 ∷ d ∷ r) (codes "--") ≡ false → Kind (45 ∷ d ∷ r)
    second u a = elim (cases_Bool (d == 45)) [
      | inl e ↦ let long = long_kind r (subst (λ x. bytes_eq (45 ∷ x ∷ r) (codes "--") ≡ false) (eqb-true d 45 e) a) in
          inr (inl (refl, (a, inl (long.0, subst (λ x. long_of (45 ∷ x ∷ r) ≡ Some long.0) (sym (eqb-true d 45 e)) long.1))))
      | inr e ↦ let y = first_char d r u in inr (inl (refl, (a, inr (d, r, y.0, rw e refl, rw e refl, y.1))))
    ]

    hyphen : c ≡ 45 → Kind (c ∷ d ∷ r)
    hyphen e = subst (λ x. Kind (x ∷ d ∷ r)) (sym e) (second (subst (λ x. IsUtf8 (x ∷ d ∷ r)) e utf8) (subst (λ x. bytes_eq (x ∷ d ∷ r) (codes "--") ≡ false) e apart))

other_kind : (word : Text) → IsUtf8 word → bytes_eq word (codes "--") ≡ false → Kind word
other_kind [] utf8 apart = inr (inr (refl, (apart, refl, refl)))
other_kind (c ∷ []) utf8 apart = elim (cases_Bool (c == 45)) [ inl e ↦ inr (inr (refl, (apart, rw e refl, rw e refl))) | inr e ↦ inr (inr (refl, (apart, rw e refl, rw e refl))) ]
other_kind (c ∷ d ∷ r) utf8 apart = kind_at c d r utf8 apart

pub kind_of : (word : Text) → IsUtf8 word → Kind word
kind_of word utf8 = elim (cases_Bool (bytes_eq word (codes "--"))) [ inl e ↦ inl ((bytes_eq-Decides word (codes "--")).0 e) | inr e ↦ other_kind word utf8 e ]
