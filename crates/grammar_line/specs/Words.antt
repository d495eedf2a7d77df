-- The words of a line. Texts are lists of bytes in UTF-8.
use Rattle.std.specs.Prelude.{ℕ, ◌&&◌, ◌||◌, ◌==◌, Bool, not, true, false, if◌then◌else◌, List, [], ◌∷◌, length, filter, codes}
use Rattle.std.specs.List.{slice_split, flat_map, list_all, after_first}
use Rattle.std.specs.Char.{is_ascii_alphabetic, is_ascii_alphanumeric}
use Rattle.std.specs.Str.{bytes_eq}
use Rattle.grammar_line.specs.declared.right_word.Mark.{Mark}
use Rattle.grammar_line.specs.declared.right_word.Mark.TheVariants.{Once, Any, AtLeastOnce, AtMostOnce}

-- a list of bytes in UTF-8
abbrev pub Word : Type 0
Word = List ℕ

-- whether the byte is a space or a tab
abbrev pub is_blank : ℕ → Bool
is_blank b = b == 32 || b == 9

-- whether the word isn't empty
abbrev pub is_filled : Word → Bool
is_filled w = not (length w == 0)

-- the words of a line: what stands between spaces and tabs
abbrev pub words : List ℕ → List Word
words line = filter is_filled (flat_map (λ part. slice_split (λ b. b == 9) part) (slice_split (λ b. b == 32) line))

-- `trim_start bytes`: the bytes without the blanks before them
abbrev pub trim_start : List ℕ → List ℕ
trim_start [] = []
trim_start (b ∷ bs) = if is_blank b then trim_start bs else b ∷ bs

-- `or_nothing b bytes`: the byte and the bytes after it, or nothing where it is a blank and nothing is after it
abbrev pub or_nothing : ℕ → List ℕ → List ℕ
or_nothing b [] = if is_blank b then [] else b ∷ []
or_nothing b (c ∷ cs) = b ∷ c ∷ cs

-- `trim_end bytes`: the bytes without the blanks after them
abbrev pub trim_end : List ℕ → List ℕ
trim_end [] = []
trim_end (b ∷ bs) = or_nothing b (trim_end bs)

-- what stands after the first `=` of a line, without blanks at its ends
abbrev pub after_equals : List ℕ → List ℕ
after_equals line = trim_end (trim_start (after_first (λ b. b == 61) line))

-- whether the byte is an ASCII letter or `_`
abbrev pub is_letter : ℕ → Bool
is_letter b = is_ascii_alphabetic b || b == 95

-- whether the byte is an ASCII letter, a digit or `_`
abbrev pub is_name_byte : ℕ → Bool
is_name_byte b = is_ascii_alphanumeric b || b == 95

-- `is_name w`: whether the word is a name: an ASCII letter or `_`, then ASCII letters, digits and `_`
abbrev pub is_name : Word → Bool
is_name [] = false
is_name (b ∷ bs) = is_letter b && list_all is_name_byte (b ∷ bs)

-- whether the word is `end` or `invalid`, which no line may use as a name
abbrev pub is_reserved : Word → Bool
is_reserved w = bytes_eq w (codes "end") || bytes_eq w (codes "invalid")

-- `last_byte w`: the last byte of a word, and 0 where there is none
abbrev pub last_byte : Word → ℕ
last_byte [] = 0
last_byte (b ∷ []) = b
last_byte (b ∷ c ∷ bs) = last_byte (c ∷ bs)

-- `without_last w`: a word without its last byte
abbrev pub without_last : Word → Word
without_last [] = []
without_last (b ∷ []) = []
without_last (b ∷ c ∷ bs) = b ∷ without_last (c ∷ bs)

-- the mark that a byte is: `*`, `+`, `?`, or none of them
abbrev pub mark_at : ℕ → Mark
mark_at b = if b == 42 then Any else if b == 43 then AtLeastOnce else if b == 63 then AtMostOnce else Once

-- the mark of a word, which its last byte shows
abbrev pub mark_of : Word → Mark
mark_of w = mark_at (last_byte w)

-- `is_mark mark`: whether a mark is one of `*`, `+` and `?`
abbrev pub is_mark : Mark → Bool
is_mark Once = false
is_mark _ = true

-- whether a word has a mark
abbrev pub is_marked : Word → Bool
is_marked w = is_mark (mark_of w)

-- a word without its mark, if it has one
abbrev pub plain : Word → Word
plain w = if is_marked w then without_last w else w
