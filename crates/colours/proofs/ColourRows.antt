-- Colours of small texts, and edits of their numbers, worked out by hand.
use Rattle.std.specs.Prelude.{◌≡◌, ℕ, ◌+◌, List, [], ◌∷◌, ◌++◌, take, drop, Option, Some, None, codes, refl}
use Rattle.definitions.specs.declared.Kind.TheVariants.{Rule, Invalid}
use Rattle.definitions.specs.declared.Position.{Position}
use Rattle.definitions.specs.declared.Unit.TheVariants.{Utf8, Utf16}
use Rattle.definitions.specs.Text.{break_ends, greatest, line_from, line_of, line_start, offset, position, units}
use Rattle.definitions.specs.Tokens.{Token}
use Rattle.colours.specs.declared.edits.DataEdit.{DataEdit}
use Rattle.colours.specs.Deltas.{applied}
use Rattle.colours.specs.Parts.{Part, coloured, coloured_from, colour_of, decoded, decoded_from, line_end, moved, part_on, parts_between, parts_in, parts_of, within}

abbrev at : ℕ → ℕ → Position
at l c = record { line = l; character = c }

abbrev part : ℕ → ℕ → ℕ → ℕ → ℕ → Part
part l s n c m = record { line = l; start = s; length = n; colour = c; modifiers = m }

-- the example of the standard (LSP 3.17, "Integer Encoding for Tokens")
standard : decoded (2 ∷ 5 ∷ 3 ∷ 0 ∷ 3 ∷ 0 ∷ 5 ∷ 4 ∷ 1 ∷ 0 ∷ 3 ∷ 2 ∷ 7 ∷ 2 ∷ 0 ∷ [])
    ≡ part 2 5 3 0 3 ∷ part 2 10 4 1 0 ∷ part 5 2 7 2 0 ∷ []
standard = refl

-- and its example of an edit: the same with an empty line before it
standard_moved : decoded (3 ∷ 5 ∷ 3 ∷ 0 ∷ 3 ∷ 0 ∷ 5 ∷ 4 ∷ 1 ∷ 0 ∷ 3 ∷ 2 ∷ 7 ∷ 2 ∷ 0 ∷ [])
    ≡ part 3 5 3 0 3 ∷ part 3 10 4 1 0 ∷ part 6 2 7 2 0 ∷ []
standard_moved = refl

-- numbers that aren't five say nothing
no_part : (decoded [] ≡ []) × (decoded (1 ∷ 2 ∷ 3 ∷ 4 ∷ []) ≡ [])
no_part = (refl, refl)

-- what follows a part at line 7, on that line and on the next one
after_seven : (moved (at 7 4) 0 3 ≡ at 7 7) × (moved (at 7 4) 1 3 ≡ at 8 3) × (decoded_from (at 7 4) (0 ∷ 3 ∷ 1 ∷ 2 ∷ 0 ∷ []) ≡ part 7 7 1 2 0 ∷ [])
after_seven = (refl, refl, refl)

-- a comment over three lines, of which the second is empty, and a name after it: `a/*`, nothing, `1*/b`
abbrev text : List ℕ
text = codes "a/*\n\n1*/b"

abbrev comment : Token
comment = record { kind = Rule 1; length = 7; reach = 7 }

abbrev name : Token
name = record { kind = Rule 0; length = 1; reach = 2 }

line_ends : (line_end Utf16 text 0 ≡ 3) × (line_end Utf16 text 1 ≡ 0) × (line_end Utf16 text 2 ≡ 4)
unfolding position offset line_of line_start line_from break_ends units greatest
line_ends = (refl, refl, refl)

-- what of the comment stands on each of its lines, with the empty one
on_lines : (part_on Utf16 text 6 (at 0 1) (at 2 3) 0 ≡ part 0 1 2 6 0) × (part_on Utf16 text 6 (at 0 1) (at 2 3) 1 ≡ part 1 0 0 6 0)
    × (part_on Utf16 text 6 (at 0 1) (at 2 3) 2 ≡ part 2 0 3 6 0)
unfolding position offset line_of line_start line_from break_ends units greatest
on_lines = (refl, refl, refl)

-- and without it
three_lines : (parts_between Utf16 text 6 (at 0 1) (at 2 3) ≡ part 0 1 2 6 0 ∷ part 2 0 3 6 0 ∷ [])
    × (parts_in Utf16 text (at 0 1) (at 2 3) (Some 6) ≡ part 0 1 2 6 0 ∷ part 2 0 3 6 0 ∷ []) × (parts_in Utf16 text (at 0 1) (at 2 3) None ≡ [])
unfolding position offset line_of line_start line_from break_ends units greatest
three_lines = (refl, refl, refl)

-- rule 0 has colour 8, rule 1 colour 6, rule 2 none; there is no other rule
abbrev palette : List (Option ℕ)
palette = Some 8 ∷ Some 6 ∷ None ∷ []

colours : (colour_of palette (Rule 0) ≡ Some 8) × (colour_of palette (Rule 1) ≡ Some 6) × (colour_of palette (Rule 2) ≡ None)
    × (colour_of palette (Rule 3) ≡ None) × (colour_of palette Invalid ≡ None)
colours = (refl, refl, refl, refl, refl)

tokens_of_text : coloured Utf16 text palette (name ∷ comment ∷ name ∷ []) ≡ part 0 0 1 8 0 ∷ part 0 1 2 6 0 ∷ part 2 0 3 6 0 ∷ part 2 3 1 8 0 ∷ []
unfolding position offset line_of line_start line_from break_ends units greatest
tokens_of_text = refl

-- only the comment, and only the second name
some_tokens : (coloured Utf16 text (None ∷ Some 6 ∷ []) (name ∷ comment ∷ name ∷ []) ≡ part 0 1 2 6 0 ∷ part 2 0 3 6 0 ∷ [])
    × (coloured_from Utf16 text palette 8 (name ∷ []) ≡ part 2 3 1 8 0 ∷ []) × (parts_of Utf16 text palette (record { start = 8; token = name }) ≡ part 2 3 1 8 0 ∷ [])
unfolding position offset line_of line_start line_from break_ends units greatest
some_tokens = (refl, refl, refl)

-- U+1F600 has two units of UTF-16, and four bytes
wide : (coloured Utf16 (0x1_F600 ∷ 97 ∷ []) palette (name ∷ name ∷ []) ≡ part 0 0 2 8 0 ∷ part 0 2 1 8 0 ∷ [])
    × (coloured Utf8 (0x1_F600 ∷ 97 ∷ []) palette (name ∷ name ∷ []) ≡ part 0 0 4 8 0 ∷ part 0 4 1 8 0 ∷ [])
unfolding position offset line_of line_start line_from break_ends units greatest
wide = (refl, refl)

-- some of these lines
lines : (within 0 1 (part 0 1 2 6 0 ∷ part 2 0 3 6 0 ∷ []) ≡ part 0 1 2 6 0 ∷ []) × (within 1 2 (part 0 1 2 6 0 ∷ part 2 0 3 6 0 ∷ []) ≡ [])
    × (within 1 3 (part 0 1 2 6 0 ∷ part 2 0 3 6 0 ∷ []) ≡ part 2 0 3 6 0 ∷ [])
lines = (refl, refl, refl)

-- the edit of the standard's example (LSP 3.17, "SemanticTokensDelta"): the first number gives way to another
standard_edit : (edit : DataEdit) → edit.start ≡ 0 → edit.delete_count ≡ 1 → edit.numbers.now ≡ 3 ∷ []
    → applied (Some edit) (2 ∷ 5 ∷ 3 ∷ 0 ∷ 3 ∷ 0 ∷ 5 ∷ 4 ∷ 1 ∷ 0 ∷ []) ≡ 3 ∷ 5 ∷ 3 ∷ 0 ∷ 3 ∷ 0 ∷ 5 ∷ 4 ∷ 1 ∷ 0 ∷ []
standard_edit edit start count numbers =
    λ i. take (start i) (2 ∷ 5 ∷ 3 ∷ 0 ∷ 3 ∷ 0 ∷ 5 ∷ 4 ∷ 1 ∷ 0 ∷ []) ++ numbers i ++ drop (start i + count i) (2 ∷ 5 ∷ 3 ∷ 0 ∷ 3 ∷ 0 ∷ 5 ∷ 4 ∷ 1 ∷ 0 ∷ [])

-- one in the middle that deletes two numbers, and none
other_edits : (edit : DataEdit) → edit.start ≡ 1 → edit.delete_count ≡ 2 → edit.numbers.now ≡ 7 ∷ [] → applied (Some edit) (1 ∷ 2 ∷ 3 ∷ 4 ∷ []) ≡ 1 ∷ 7 ∷ 4 ∷ []
other_edits edit start count numbers = λ i. take (start i) (1 ∷ 2 ∷ 3 ∷ 4 ∷ []) ++ numbers i ++ drop (start i + count i) (1 ∷ 2 ∷ 3 ∷ 4 ∷ [])

no_edit : applied None (1 ∷ 2 ∷ []) ≡ 1 ∷ 2 ∷ []
no_edit = refl
