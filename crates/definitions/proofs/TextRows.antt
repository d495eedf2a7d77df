-- Positions, offsets and changes of small texts, computed.
use Rattle.std.specs.Prelude.{◌≡◌, ℕ, true, false, List, [], ◌∷◌, codes, Some, None, refl}
use Rattle.std.proofs.Common.{arith, inl, inr}
use Rattle.definitions.specs.declared.Position.{Position}
use Rattle.definitions.specs.declared.Range.{Range}
use Rattle.definitions.specs.declared.Unit.TheVariants.{Utf8, Utf16, Utf32}
use Rattle.definitions.specs.Text.{IsCharacter, IsText, unit, begins_with, ends_break, break_ends, line_of, line_start, line_from, units, greatest, offset, position, changed}

abbrev at : ℕ → ℕ → Position
at l c = record { line = l; character = c }

abbrev from_to : ℕ → ℕ → ℕ → ℕ → Range
from_to l c m d = record { start = at l c; end = at m d }

-- a `\r` and a `\n` apart are two breaks
abbrev apart : List ℕ
apart = 49 ∷ 13 ∷ 88 ∷ 10 ∷ 50 ∷ []

apart_positions : (position Utf16 apart 2 ≡ at 1 0) × (position Utf16 apart 3 ≡ at 1 1) × (position Utf16 apart 4 ≡ at 2 0) × (position Utf16 apart 5 ≡ at 2 1)
unfolding position line_of line_start line_from break_ends units
apart_positions = (refl, refl, refl, refl)

-- and one where they meet
together : changed Utf16 apart (Some (from_to 1 0 1 1)) [] ≡ 49 ∷ 13 ∷ 10 ∷ 50 ∷ []
unfolding changed offset line_start line_from break_ends units greatest
together = refl

together_positions : (position Utf16 (49 ∷ 13 ∷ 10 ∷ 50 ∷ []) 3 ≡ at 1 0) × (position Utf16 (49 ∷ 13 ∷ 10 ∷ 50 ∷ []) 4 ≡ at 1 1) × (position Utf16 (49 ∷ 13 ∷ 10 ∷ 50 ∷ []) 2 ≡ at 0 1)
unfolding position line_of line_start line_from break_ends units
together_positions = (refl, refl, refl)

-- a character of two units, and a position inside it
wide_positions : (position Utf16 (0x1_F600 ∷ 49 ∷ []) 0 ≡ at 0 0) × (position Utf16 (0x1_F600 ∷ 49 ∷ []) 1 ≡ at 0 2) × (position Utf16 (0x1_F600 ∷ 49 ∷ []) 2 ≡ at 0 3)
unfolding position line_of line_start line_from break_ends units
wide_positions = (refl, refl, refl)

wide_insert : changed Utf16 (0x1_F600 ∷ 49 ∷ []) (Some (from_to 0 1 0 1)) (codes "5") ≡ 53 ∷ 0x1_F600 ∷ 49 ∷ []
unfolding changed offset line_start line_from break_ends units greatest
wide_insert = refl

wide_moved : (position Utf16 (53 ∷ 0x1_F600 ∷ 49 ∷ []) 1 ≡ at 0 1) × (position Utf16 (53 ∷ 0x1_F600 ∷ 49 ∷ []) 2 ≡ at 0 3)
unfolding position line_of line_start line_from break_ends units
wide_moved = (refl, refl)

-- one change after another
two_changes : changed Utf16 (changed Utf16 [] (Some (from_to 0 0 0 0)) (codes "12")) (Some (from_to 0 0 0 1)) [] ≡ codes "2"
unfolding changed offset line_start line_from break_ends units greatest
two_changes = refl

-- a range with its ends exchanged, and a line past the last
exchanged : changed Utf16 (codes "1+2") (Some (from_to 0 3 0 1)) [] ≡ codes "1"
unfolding changed offset line_start line_from break_ends units greatest
exchanged = refl

past : changed Utf16 (codes "1") (Some (from_to 99 0 99 0)) (codes "+3") ≡ codes "1+3"
unfolding changed offset line_start line_from break_ends units greatest
past = refl

-- the empty text, and the place after a last break
no_text : (position Utf16 [] 0 ≡ at 0 0) × (offset Utf16 [] (at 3 7) ≡ 0) × (position Utf16 (49 ∷ 10 ∷ []) 2 ≡ at 1 0) × (offset Utf16 (49 ∷ 10 ∷ []) (at 1 0) ≡ 2)
unfolding position offset line_of line_start line_from break_ends units greatest
no_text = (refl, refl, refl, refl)

-- past the end of a line, inside a pair, and past the end of the text
past_places : (offset Utf16 (49 ∷ 13 ∷ 10 ∷ 50 ∷ []) (at 0 9) ≡ 1) × (offset Utf16 (49 ∷ 0x1_F600 ∷ []) (at 0 2) ≡ 1) × (position Utf16 (codes "1") 9 ≡ at 0 1)
unfolding position offset line_of line_start line_from break_ends units greatest
past_places = (refl, refl, refl)

-- `\n\r` is two breaks
exchanged_break : position Utf16 (10 ∷ 13 ∷ 49 ∷ []) 2 ≡ at 2 0
unfolding position line_of line_start line_from break_ends units
exchanged_break = refl

-- U+00E9 and U+1F600 in the other encodings
other_units : (units Utf8 (0xE9 ∷ 0x1_F600 ∷ []) ≡ 6) × (units Utf16 (0xE9 ∷ 0x1_F600 ∷ []) ≡ 3) × (units Utf32 (0xE9 ∷ 0x1_F600 ∷ []) ≡ 2)
unfolding units
other_units = (refl, refl, refl)

-- Unicode scalar values: all up to U+10FFFF but the surrogates
least_and_greatest : IsCharacter 0 × IsCharacter 0xD7FF × IsCharacter 0xE000 × IsCharacter 0x10_FFFF
least_and_greatest = (inl (omega arith), inl (omega arith), inr (omega arith, omega arith), inr (omega arith, omega arith))

first_surrogate : ¬ IsCharacter 0xD800
first_surrogate (inl l) = omega (arith, l)
first_surrogate (inr h) = omega (arith, h.0)

last_surrogate : ¬ IsCharacter 0xDFFF
last_surrogate (inl l) = omega (arith, l)
last_surrogate (inr h) = omega (arith, h.0)

past_unicode : ¬ IsCharacter 0x11_0000
past_unicode (inl l) = omega (arith, l)
past_unicode (inr h) = omega (arith, h.1)

no_text_of_surrogates : ¬ IsText (49 ∷ 0xD800 ∷ [])
no_text_of_surrogates t = first_surrogate (t 1 0 (omega arith))

-- a unit of UTF-16 up to U+FFFF, and two from U+10000 on; in UTF-8 one byte up to U+7F, two up to U+7FF, three up to U+FFFF
wide_from : (unit Utf16 0xFFFF ≡ 1) × (unit Utf16 0x1_0000 ≡ 2) × (unit Utf8 0x7F ≡ 1) × (unit Utf8 0x80 ≡ 2) × (unit Utf8 0x7FF ≡ 2)
    × (unit Utf8 0x800 ≡ 3) × (unit Utf8 0xFFFF ≡ 3) × (unit Utf8 0x1_0000 ≡ 4) × (unit Utf32 0x10_FFFF ≡ 1)
wide_from = (refl, refl, refl, refl, refl, refl, refl, refl, refl)

-- a `\n` ends a line, and so does a `\r` with no `\n` after it
breaks : (ends_break 10 (codes "1") ≡ true) × (ends_break 13 (codes "1") ≡ true) × (ends_break 13 (codes "\n") ≡ false) × (ends_break 10 (codes "\n") ≡ true)
    × (ends_break 49 (codes "\n") ≡ false) × (ends_break 13 [] ≡ true) × (begins_with 49 [] ≡ false) × (begins_with 49 (codes "12") ≡ true)
breaks = (refl, refl, refl, refl, refl, refl, refl, refl)

-- the lines of `1\r\n2\n`, and what is in them
three_lines : (line_start (codes "1\r\n2\n") 0 ≡ 0) × (line_start (codes "1\r\n2\n") 1 ≡ 3) × (line_start (codes "1\r\n2\n") 2 ≡ 5) × (line_start (codes "1\r\n2\n") 3 ≡ 5)
    × (line_from 0 (codes "1\r\n2\n") ≡ codes "1") × (line_from 3 (codes "1\r\n2\n") ≡ codes "2") × (line_of (codes "1\r\n2\n") 2 ≡ 0) × (line_of (codes "1\r\n2\n") 3 ≡ 1)
unfolding line_of line_start line_from break_ends
three_lines = (refl, refl, refl, refl, refl, refl, refl, refl)

-- the whole text gives way where there is no range
whole : (changed Utf16 (codes "1+2") None (codes "3") ≡ codes "3") × (changed Utf16 (codes "1+2") (Some (from_to 0 1 0 2)) (codes "-") ≡ codes "1-2")
unfolding changed offset line_start line_from break_ends units greatest
whole = (refl, refl)
