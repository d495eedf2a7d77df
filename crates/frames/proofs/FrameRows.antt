-- What small streams begin with and split into, and what they don't (LSP 3.17, "Base Protocol").
use Rattle.std.specs.Prelude.{◌≡◌, ℕ, List, [], ◌∷◌, codes, refl, slice_index, Some, None, Ok, Err, true, false}
use Rattle.std.proofs.Common.{arith, ap}
use Rattle.frames.specs.declared.fault.FrameFault.TheVariants.{BadField, NoLength, SecondLength, BadLength, BadCharset, Truncated, LongHeader}
use Rattle.frames.specs.declared.header.Start.TheVariants.{NeedsMore, Fails, Announces}
use Rattle.frames.specs.Frames.{start_of, unfinished, IsBegun, IsTail, BeginsWith, Splits, IsOpen, IsCut, Open, Faulty, finish_of}
use Rattle.frames.specs.Header.{header_size, trim, is_value_byte, length_value, lines_of, header_length}
use Rattle.std.specs.Fmt.{digits}
use Rattle.frames.specs.Write.{frame}

-- a header part that announces one byte, and the byte
abbrev one_byte : List ℕ
one_byte = codes "Content-Length: 1\r\n\r\n{"

begins : start_of one_byte ≡ Announces 21 1
begins = refl

splits : Splits one_byte (codes "{" ∷ []) (Open [])
splits = (21, record { header = refl; follows = refl }, (refl, tt))

-- it isn't the rest of a frame that has begun
not_begun : Splits one_byte [] (Open one_byte) → ⊥
not_begun s = omega (arith, s.1)

-- a second length
second : start_of (codes "Content-Length: 2\r\nContent-Length: 2\r\n\r\n{}") ≡ Fails SecondLength
second = refl

-- two bytes of five: a frame that is cut short at the end
abbrev two_of_five : List ℕ
two_of_five = codes "Content-Length: 5\r\n\r\n{}"

cut : Splits two_of_five [] (Open two_of_five)
cut = (refl, omega arith)

cut_short : finish_of (Open two_of_five) ≡ Err Truncated
cut_short = refl

is_cut : IsCut (Open two_of_five)
is_cut e = let f : ⊥ = cc e in f

not_cut : IsCut (Open []) → ⊥
not_cut c = c refl

-- nothing is left over
whole : finish_of (Open []) ≡ Ok tt
whole = refl

-- a line that is no field
no_field : start_of (codes "X\r\n\r\n") ≡ Fails BadField
no_field = refl

faulty : finish_of (Faulty BadField) ≡ Err BadField
faulty = refl

not_open : IsOpen (Faulty BadField) → ⊥
not_open o = o

-- no length
no_length : start_of (codes "Content-Type: application/vscode-jsonrpc; charset=utf-8\r\n\r\n") ≡ Fails NoLength
no_length = refl

-- a length that is too large by one, and the largest one
too_large : start_of (codes "Content-Length: 16777217\r\n\r\n") ≡ Fails BadLength
too_large = refl

largest : start_of (codes "Content-Length: 16777216\r\n\r\n") ≡ Announces 28 16_777_216
largest = refl

-- another charset
charset : start_of (codes "Content-Type: text/plain; charset=latin1\r\nContent-Length: 2\r\n\r\n{}") ≡ Fails BadCharset
charset = refl

-- a header part that is too long, and the longest that may still go on
too_long : unfinished 4096 ≡ Fails LongHeader
too_long = refl

not_too_long : unfinished 4095 ≡ NeedsMore
not_too_long = refl

-- a frame that is written
written : frame (codes "{}") ≡ codes "Content-Length: 2\r\n\r\n{}"
unfolding digits
written = refl

-- ---- two frames, and a tail that is faulty

abbrev two_frames : List ℕ
two_frames = codes "Content-Length: 1\r\n\r\n{Content-Length: 2\r\n\r\n[]X\r\n\r\n"

two : Splits two_frames (codes "{" ∷ codes "[]" ∷ []) (Faulty BadField)
two = (21, record { header = refl; follows = refl }, (21, record { header = refl; follows = refl }, refl))

exchanged : Splits two_frames (codes "[]" ∷ codes "{" ∷ []) (Faulty BadField) → ⊥
exchanged (size, first, rest) = absurd (cc first.header)

begins_with : BeginsWith one_byte (codes "{") 21
begins_with = record { header = refl; follows = refl }

another_content : BeginsWith one_byte (codes "[") 21 → ⊥
another_content b = omega (arith, ap (λ l. slice_index l 0) b.follows)

another_size : BeginsWith one_byte (codes "{") 20 → ⊥
another_size b = absurd (cc b.header)

-- a fault is no rest, and a rest no fault
fault_as_rest : IsTail (codes "X\r\n\r\n") (Open (codes "X\r\n\r\n")) → ⊥
fault_as_rest t = t.1

rest_as_fault : IsTail two_of_five (Faulty Truncated) → ⊥
rest_as_fault t = absurd (cc t)

another_rest : IsTail two_of_five (Open []) → ⊥
another_rest t = absurd (cc t.0)

another_fault : IsTail (codes "X\r\n\r\n") (Faulty NoLength) → ⊥
another_fault t = absurd (cc t)

begun : IsBegun (codes "Content-Length: 1\r\n\r\n") (Announces 21 1)
begun = omega arith

whole_is_not_begun : IsBegun one_byte (Announces 21 1) → ⊥
whole_is_not_begun b = omega (arith, b)

fault_is_not_begun : IsBegun (codes "X\r\n\r\n") (Fails BadField) → ⊥
fault_is_not_begun b = b

open_is_open : IsOpen (Open (codes "C"))
open_is_open = tt

-- ---- header parts

-- the empty header part has no length; so has one with a first line that isn't looked at
empty_header : start_of (codes "\r\n{}") ≡ Fails NoLength
empty_header = refl

other_field : start_of (codes "X-Y: z\r\nContent-Length: 2\r\n\r\n{}") ≡ Announces 29 2
other_field = refl

-- names in another case, blanks at both ends of a value, and the other name of UTF-8
another_case : start_of (codes "cONTENT-lENGTH: 2\r\n\r\n{}") ≡ Announces 21 2
another_case = refl

type_in_another_case : start_of (codes "content-type: text/plain\r\nContent-Length: 2\r\n\r\n{}") ≡ Fails BadCharset
type_in_another_case = refl

blanks : start_of (codes "Content-Length:\t 2 \t\r\n\r\n{}") ≡ Announces 24 2
blanks = refl

no_blank : start_of (codes "Content-Length:2\r\n\r\n{}") ≡ Announces 20 2
no_blank = refl

utf8 : start_of (codes "Content-Type: application/vscode-jsonrpc; charset=utf8\r\nContent-Length: 2\r\n\r\n{}") ≡ Announces 77 2
utf8 = refl

utf_8 : start_of (codes "Content-Type: application/vscode-jsonrpc; charset=utf-8\r\nContent-Length: 2\r\n\r\n{}") ≡ Announces 78 2
utf_8 = refl

-- the first faulty line decides, and a second length is one whatever it is
first_fault : start_of (codes "Content-Length: x\r\nX\r\n\r\n") ≡ Fails BadLength
first_fault = refl

second_whatever : start_of (codes "Content-Length: 2\r\nContent-Length: x\r\n\r\n{}") ≡ Fails SecondLength
second_whatever = refl

-- a length has one to eight digits
lengths : (length_value (codes "00000002") ≡ Some 2) × (length_value (codes "000000002") ≡ None) × (length_value [] ≡ None) × (length_value (codes "-1") ≡ None)
    × (length_value (codes "16777216") ≡ Some 16_777_216) × (length_value (codes "16777217") ≡ None)
lengths = (refl, refl, refl, refl, refl, refl)

-- a name has a byte, and no blank; a value has no bytes below 0x20 but tabs, and none from 0x7F on
names : (start_of (codes ": 2\r\n\r\n") ≡ Fails BadField) × (start_of (codes "Content Length: 2\r\n\r\n") ≡ Fails BadField) × (start_of (codes "Content-Length : 2\r\n\r\n") ≡ Fails BadField)
names = (refl, refl, refl)

values : (is_value_byte 9 ≡ true) × (is_value_byte 31 ≡ false) × (is_value_byte 32 ≡ true) × (is_value_byte 126 ≡ true) × (is_value_byte 127 ≡ false)
values = (refl, refl, refl, refl, refl)

trimmed : (trim (codes " \ta b\t ") ≡ codes "a b") × (trim (codes "  ") ≡ []) × (trim [] ≡ [])
trimmed = (refl, refl, refl)

bare_line_feed : start_of (codes "Content-Length: 2\n\r\n\r\n{}") ≡ Fails BadField
bare_line_feed = refl

lines : lines_of (codes "a\r\nb\r\n") ≡ codes "a" ∷ codes "b" ∷ []
lines = refl

sizes : (header_size (codes "\r\nX") ≡ Some 2) × (header_size (codes "a: b\r\n\r\nX") ≡ Some 8) × (header_size (codes "a: b\r\n") ≡ None)
sizes = (refl, refl, refl)

given_length : header_length (codes "Content-Length: 2\r\n\r\n") ≡ Ok 2
given_length = refl

-- contents of no byte, and a header part alone
nothing_in_it : Splits (codes "Content-Length: 0\r\n\r\n") ([] ∷ []) (Open [])
nothing_in_it = (21, record { header = refl; follows = refl }, (refl, tt))

header_alone : Splits (codes "Content-Length: 1\r\n\r\n") [] (Open (codes "Content-Length: 1\r\n\r\n"))
header_alone = (refl, omega arith)

written_empty : frame [] ≡ codes "Content-Length: 0\r\n\r\n"
unfolding digits
written_empty = refl

written_long : frame (codes "0123456789") ≡ codes "Content-Length: 10\r\n\r\n0123456789"
unfolding digits
written_long = refl

a_rest : IsTail two_of_five (Open two_of_five)
a_rest = cut

a_fault : IsTail (codes "X\r\n\r\n") (Faulty BadField)
a_fault = refl
