-- A value has no white space but spaces and tabs.
use Rattle.frames.proofs.Std.{◌≡◌, ◌+◌, ◌-◌, ◌&&◌, ℕ, true, List, [], ◌∷◌, ◌++◌, length, take, drop, refl, ap, sym, ◌∙◌, arith, cond, reverse, list_all, prefix_len, suffix_len, is_ascii_whitespace, take-append-drop, reverse-append, list_all-append, common_steps, and_parts}
use Rattle.frames.proofs.Common.{is_value_byte, is_blank, trim}

blank_agrees : (b : ℕ) → is_value_byte b ≡ true → is_ascii_whitespace b ≡ is_blank b
blank_agrees b h = grind (arith, common_steps)

prefix_agrees : (value : List ℕ) → list_all is_value_byte value ≡ true → prefix_len is_ascii_whitespace value ≡ prefix_len is_blank value
prefix_agrees [] h = refl
prefix_agrees (b ∷ value) h =
    let p = and_parts (is_value_byte b) (list_all is_value_byte value) h in
    (λ i. cond (blank_agrees b p.0 i) (1 + prefix_agrees value p.1 i) 0)

of_append : (xs ys : List ℕ) → list_all is_value_byte xs ≡ true → list_all is_value_byte ys ≡ true → list_all is_value_byte (xs ++ ys) ≡ true
of_append xs ys h k = list_all-append is_value_byte xs ys ∙ (λ i. h i && k i)

of_reverse : (xs : List ℕ) → list_all is_value_byte xs ≡ true → list_all is_value_byte (reverse xs) ≡ true
of_reverse [] h = refl
of_reverse (x ∷ xs) h =
    let p = and_parts (is_value_byte x) (list_all is_value_byte xs) h in
    ap (list_all is_value_byte) (reverse-append (x ∷ []) xs) ∙ of_append (reverse xs) (x ∷ []) (of_reverse xs p.1) (ap (λ b. b && true) p.0)

of_drop : (n : ℕ) (xs : List ℕ) → list_all is_value_byte xs ≡ true → list_all is_value_byte (drop n xs) ≡ true
of_drop n xs h =
    let whole : (list_all is_value_byte (take n xs) && list_all is_value_byte (drop n xs)) ≡ true = sym (list_all-append is_value_byte (take n xs) (drop n xs))
    ∙ ap (list_all is_value_byte) (take-append-drop n xs) ∙ h in
    (and_parts (list_all is_value_byte (take n xs)) (list_all is_value_byte (drop n xs)) whole).1

-- the value without all its white space at the ends is the one without spaces and tabs
pub trimmed_is : (value : List ℕ) → list_all is_value_byte value ≡ true
    → (let rest = drop (prefix_len is_ascii_whitespace value) value in take (length rest - suffix_len is_ascii_whitespace rest) rest) ≡ trim value
trimmed_is value h =
    let rest = drop (prefix_len is_ascii_whitespace value) value in
    let prefix : rest ≡ drop (prefix_len is_blank value) value = ap (λ n. drop n value) (prefix_agrees value h) in
    let end : suffix_len is_ascii_whitespace rest ≡ suffix_len is_blank rest = prefix_agrees (reverse rest) (of_reverse rest (of_drop (prefix_len is_ascii_whitespace value) value h)) in
    ap (λ n. take (length rest - n) rest) end ∙ ap (λ (l : List ℕ). take (length l - suffix_len is_blank l) l) prefix
