-- What small edits keep, computed.
use Rattle.std.specs.Prelude.{◌≡◌, ℕ, Bool, true, false, List, [], ◌∷◌, length, refl}
use Rattle.definitions.specs.declared.Edit.{Edit}
use Rattle.definitions.specs.declared.Kind.TheVariants.{Rule, Invalid}
use Rattle.definitions.specs.declared.Kind.{Kind}
use Rattle.definitions.specs.TokenEdits.{made, splice}
use Rattle.definitions.specs.Tokens.{Token}

abbrev token : Kind → ℕ → ℕ → Token
token k n r = record { kind = k; length = n; reach = r }

-- the edit that puts n characters in place of m from a on
abbrev puts : ℕ → ℕ → ℕ → Edit
puts a m n = record { at = a; removed = m; inserted = n; number = 1 }

-- sums of numbers, where blanks are skipped
abbrev num : Kind
num = Rule 0

abbrev plus : Kind
plus = Rule 1

abbrev close : Kind
close = Rule 3

abbrev blank : Kind
blank = Rule 4

abbrev skips : List Bool
skips = false ∷ false ∷ false ∷ false ∷ true ∷ []

-- `1+2` and `1 +2`, a blank put in at 1
abbrev sum : List Token
sum = token num 1 2 ∷ token plus 1 2 ∷ token num 1 2 ∷ []

abbrev spaced : List Token
spaced = token num 1 2 ∷ token blank 1 2 ∷ token plus 1 2 ∷ token num 1 2 ∷ []

blank_put_in : (length (made (puts 1 0 1) sum spaced) ≡ 2) × (splice skips (puts 1 0 1) sum spaced ≡ record { from = 0; to = 0; kinds = [] })
blank_put_in = (refl, refl)

-- `1+2` and `1)2`, and `1+2` and `1+3`: where the kinds are the same, nothing gives way
kind_changed : splice skips (puts 1 1 1) sum (token num 1 2 ∷ token close 1 2 ∷ token num 1 2 ∷ []) ≡ record { from = 0; to = 2; kinds = num ∷ close ∷ [] }
kind_changed = refl

digit_changed : (length (made (puts 2 1 1) sum sum) ≡ 2) × (splice skips (puts 2 1 1) sum sum ≡ record { from = 1; to = 1; kinds = [] })
digit_changed = (refl, refl)

-- `1+ 2` and `1+ 3+2`, two characters put in at 3
abbrev gap : List Token
gap = token num 1 2 ∷ token plus 1 2 ∷ token blank 1 2 ∷ token num 1 2 ∷ []

abbrev filled : List Token
filled = token num 1 2 ∷ token plus 1 2 ∷ token blank 1 2 ∷ token num 1 2 ∷ token plus 1 2 ∷ token num 1 2 ∷ []

term_put_in : (length (made (puts 3 0 2) gap filled) ≡ 3) × (splice skips (puts 3 0 2) gap filled ≡ record { from = 2; to = 2; kinds = num ∷ plus ∷ [] })
term_put_in = (refl, refl)

-- `1+2+3` and `)1+2+3`, and back
abbrev long_sum : List Token
long_sum = token num 1 2 ∷ token plus 1 2 ∷ token num 1 2 ∷ token plus 1 2 ∷ token num 1 2 ∷ []

close_put_in : (length (made (puts 0 0 1) long_sum (token close 1 2 ∷ long_sum)) ≡ 1)
    × (splice skips (puts 0 0 1) long_sum (token close 1 2 ∷ long_sum) ≡ record { from = 0; to = 0; kinds = close ∷ [] })
close_put_in = (refl, refl)

close_taken_out : (length (made (puts 0 1 0) (token close 1 2 ∷ long_sum) long_sum) ≡ 0) × (splice skips (puts 0 1 0) (token close 1 2 ∷ long_sum) long_sum ≡ record { from = 0; to = 1; kinds = [] })
close_taken_out = (refl, refl)

-- Strings and words: `ab cd`, `"ab cd` where the quote begins no whole string, and `"ab cd"`.
abbrev string : Kind
string = Rule 0

abbrev word : Kind
word = Rule 1

abbrev space : Kind
space = Rule 2

abbrev word_skips : List Bool
word_skips = false ∷ false ∷ true ∷ []

abbrev words : List Token
words = token word 2 3 ∷ token space 1 2 ∷ token word 2 3 ∷ []

abbrev opened : List Token
opened = token Invalid 1 7 ∷ words

abbrev quoted : List Token
quoted = token string 7 8 ∷ []

quote_put_in : (length (made (puts 0 0 1) words opened) ≡ 1) × (splice word_skips (puts 0 0 1) words opened ≡ record { from = 0; to = 0; kinds = Invalid ∷ [] })
quote_put_in = (refl, refl)

quote_closed : (length (made (puts 6 0 1) opened quoted) ≡ 1) × (splice word_skips (puts 6 0 1) opened quoted ≡ record { from = 0; to = 3; kinds = string ∷ [] })
quote_closed = (refl, refl)

quote_taken_out : (length (made (puts 6 1 0) quoted opened) ≡ 4) × (splice word_skips (puts 6 1 0) quoted opened ≡ record { from = 0; to = 1; kinds = Invalid ∷ word ∷ word ∷ [] })
quote_taken_out = (refl, refl)

-- `(1)`, and its last character taken out
abbrev left : Kind
left = Rule 2

close_dropped : length (made (puts 2 1 0) (token left 1 2 ∷ token num 1 2 ∷ token close 1 2 ∷ []) (token left 1 2 ∷ token num 1 2 ∷ [])) ≡ 1
close_dropped = refl

-- `1+2+3` with `4` or `+4` after it, `9` before it, and without its last character
digit_after : length (made (puts 5 0 1) long_sum (token num 1 2 ∷ token plus 1 2 ∷ token num 1 2 ∷ token plus 1 2 ∷ token num 2 3 ∷ [])) ≡ 1
digit_after = refl

term_after : length (made (puts 5 0 2) long_sum (token num 1 2 ∷ token plus 1 2 ∷ token num 1 2 ∷ token plus 1 2 ∷ token num 1 2 ∷ token plus 1 2 ∷ token num 1 2 ∷ [])) ≡ 3
term_after = refl

digit_before : length (made (puts 0 0 1) long_sum (token num 2 3 ∷ token plus 1 2 ∷ token num 1 2 ∷ token plus 1 2 ∷ token num 1 2 ∷ [])) ≡ 1
digit_before = refl

digit_dropped : length (made (puts 4 1 0) long_sum (token num 1 2 ∷ token plus 1 2 ∷ token num 1 2 ∷ token plus 1 2 ∷ [])) ≡ 1
digit_dropped = refl

-- `"abc"`, `"a"`, `"b"` and `"d"`: in `abd` the first token reads the third character, which an edit changes to `c`
far_reach : length (made (puts 2 1 1) (token (Rule 1) 1 3 ∷ token (Rule 2) 1 2 ∷ token (Rule 3) 1 2 ∷ []) (token (Rule 0) 3 4 ∷ [])) ≡ 1
far_reach = refl
