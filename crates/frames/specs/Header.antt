-- The header part of a frame (LSP 3.17, "Header Part").
use Rattle.std.specs.Prelude.{◌≡◌, ℕ, suc, ◌+◌, ◌-◌, ◌<◌, ◌≤◌, ◌⊎◌, ◌&&◌, ◌||◌, ◌==◌, Bool, true, false, not, nat_eq, nat_le}
use Rattle.std.specs.Prelude.{if◌then◌else◌, List, [], ◌∷◌, ◌++◌, length, take, drop, map, position, All, Any, codes, Option, Some}
use Rattle.std.specs.Prelude.{None, is_some, option_map, option_and_then, Result, Ok, Err}
use Rattle.std.specs.List.{starts_with, list_all, list_any, flat_map, prefix_len, suffix_len}
use Rattle.std.specs.Char.{is_ascii_digit, is_ascii_alphanumeric, to_ascii_lowercase}
use Rattle.std.specs.Option.{ok_or, option_or, option_map_or}
use Rattle.std.specs.Str.{bytes_eq}
use Rattle.std.specs.Str.Parse.{digits_value}
use Rattle.frames.specs.declared.fault.FrameFault.{FrameFault}
use Rattle.frames.specs.declared.fault.FrameFault.TheVariants.{BadField, NoLength, SecondLength, BadLength, BadCharset}

-- CR LF
abbrev pub line_end : List ℕ
line_end = 13 ∷ 10 ∷ []

-- CR LF CR LF: the end of a line, and an empty line
abbrev pub blank_line : List ℕ
blank_line = 13 ∷ 10 ∷ 13 ∷ 10 ∷ []

-- `IsWhole part`: the bytes are a whole header part: CR LF, or bytes that end with CR LF CR LF
abbrev pub IsWhole : List ℕ → Type 0
IsWhole prefix = (prefix ≡ line_end) ⊎ ((lines : List ℕ) × (prefix ≡ lines ++ blank_line))

-- the first `size` bytes are the header part: the shortest prefix that is CR LF or ends with CR LF CR LF (LSP 3.17, "Header Part")
pub record IsHeaderPart (bytes : List ℕ) (size : ℕ) : Type 0 where
  pub within : size ≤ length bytes
  pub whole : IsWhole (take size bytes)
  pub shortest : (n : ℕ) → n < size → ¬ IsWhole (take n bytes)

-- `through needle bytes`: how many bytes lead up to the end of the first place where `needle` stands, if it stands anywhere
abbrev pub through : List ℕ → List ℕ → Option ℕ
through needle [] = None
through needle (b ∷ bytes) = if starts_with nat_eq (b ∷ bytes) needle then Some (length needle) else option_map suc (through needle bytes)

-- the size of the header part, computed; the law `shortest_header_part` says that it is that of `IsHeaderPart`
abbrev pub header_size : List ℕ → Option ℕ
header_size bytes = if starts_with nat_eq bytes line_end then Some 2 else through blank_line bytes

-- whether the byte is an ASCII letter, a digit or `-`
abbrev pub is_name_byte : ℕ → Bool
is_name_byte b = is_ascii_alphanumeric b || b == 45

-- whether the byte is from 0x20 to 0x7E, or a tab
abbrev pub is_value_byte : ℕ → Bool
is_value_byte b = (nat_le 32 b && nat_le b 126) || b == 9

-- whether the byte is a space or a tab
abbrev pub is_blank : ℕ → Bool
is_blank b = b == 32 || b == 9

-- a value without the blanks at its ends
abbrev pub trim : List ℕ → List ℕ
trim value = let rest = drop (prefix_len is_blank value) value in take (length rest - suffix_len is_blank rest) rest

-- whether the name is `Content-Length`, in any case
abbrev pub is_content_length : List ℕ → Bool
is_content_length name = bytes_eq (map to_ascii_lowercase name) (codes "content-length")

-- whether the name is `Content-Type`, in any case
abbrev pub is_content_type : List ℕ → Bool
is_content_type name = bytes_eq (map to_ascii_lowercase name) (codes "content-type")

-- whether the value is `application/vscode-jsonrpc; charset=utf-8`, or that with `utf8` (LSP 3.17, "Header Part")
abbrev pub is_utf8_type : List ℕ → Bool
is_utf8_type value = bytes_eq value (codes "application/vscode-jsonrpc; charset=utf-8")
    || bytes_eq value (codes "application/vscode-jsonrpc; charset=utf8")

-- whether the bytes are a field's name: one `is_name_byte` or more
abbrev pub is_name : List ℕ → Bool
is_name name = not (length name == 0) && list_all is_name_byte name

-- whether the value is one to eight digits
abbrev pub is_number : List ℕ → Bool
is_number value = not (length value == 0) && nat_le (length value) 8 && list_all is_ascii_digit value

-- the number of one to eight digits, where it is at most 16,777,216
abbrev pub length_value : List ℕ → Option ℕ
length_value value = if is_number value && nat_le (digits_value 10 value) 16777216 then Some (digits_value 10 value) else None

-- the name before the colon at this place and the value after it, `trim`, where they are a name and bytes of a value (RFC 7230, 3.2)
abbrev pub field_at : List ℕ → ℕ → Option (List ℕ × List ℕ)
field_at line colon =
    if is_name (take colon line) && list_all is_value_byte (drop (colon + 1) line)
    then Some (take colon line, trim (drop (colon + 1) line))
    else None

-- the field of a line: `field_at` its first colon
abbrev pub field_of : List ℕ → Option (List ℕ × List ℕ)
field_of line = option_and_then (field_at line) (position (λ b. b == 58) line)

-- the length that a field gives, if it is a `Content-Length`
abbrev pub field_length : List ℕ × List ℕ → Option ℕ
field_length field = if is_content_length field.0 then length_value field.1 else None

-- the length that a line gives, if its field is a `Content-Length`
abbrev pub line_length : List ℕ → Option ℕ
line_length line = option_and_then field_length (field_of line)

-- `length_fault is_given n`: the fault of a `Content-Length` with the length `n`, or with none: it is a second one, where a length was
-- given before it, whatever its value; or its value is no length
abbrev pub length_fault : Bool → Option ℕ → Option FrameFault
length_fault true n = Some SecondLength
length_fault false None = Some BadLength
length_fault false (Some n) = None

-- the fault of a field: that of a `Content-Length`, or a `Content-Type` that doesn't name UTF-8
abbrev pub field_fault : Bool → List ℕ × List ℕ → Option FrameFault
field_fault is_given field =
    if is_content_length field.0 then length_fault is_given (length_value field.1)
    else (if is_content_type field.0 && not (is_utf8_type field.1) then Some BadCharset else None)

-- the fault of a line: that of its field, or that it is no field
abbrev pub line_fault : Bool → List ℕ → Option FrameFault
line_fault is_given line = option_map_or (field_fault is_given) (field_of line) (Some BadField)

-- `onto_first_line b lines`: the lines with the byte `b` before the first of them
abbrev pub onto_first_line : ℕ → List (List ℕ) → List (List ℕ)
onto_first_line b [] = []
onto_first_line b (line ∷ lines) = (b ∷ line) ∷ lines

-- `lines_of bytes`: the lines that CR LF ends, without their ends
abbrev pub lines_of : List ℕ → List (List ℕ)
lines_of [] = []
lines_of (b ∷ []) = []
lines_of (b ∷ c ∷ bytes) = if starts_with nat_eq (b ∷ c ∷ bytes) line_end
    then [] ∷ lines_of bytes else onto_first_line b (lines_of (c ∷ bytes))

-- `lines_length given lines`: the length that lines give after ones that gave `given`, or the fault of the first faulty line; a missing
-- length is a fault where no line has one
abbrev pub lines_length : Option ℕ → List (List ℕ) → Result ℕ FrameFault
lines_length given [] = ok_or given NoLength
lines_length given (line ∷ lines) = option_map_or Err (line_fault (is_some given) line)
    (lines_length (option_or given (line_length line)) lines)

-- the length that the field lines of a whole header part give, or their fault, as `lines_length` computes it
abbrev pub header_length : List ℕ → Result ℕ FrameFault
header_length part = lines_length None (lines_of (take (length part - 2) part))

-- the header part is these field lines, each with CR LF after it, and CR LF; none of the lines holds CR LF
pub record AreFieldLines (part : List ℕ) (lines : List (List ℕ)) : Type 0 where
  pub parts : part ≡ flat_map (λ line. line ++ line_end) lines ++ line_end
  pub single : All (λ line. through line_end line ≡ None) lines

-- whether one of the lines gives a length
abbrev pub has_length : List (List ℕ) → Bool
has_length lines = list_any (λ line. is_some (line_length line)) lines

-- none of the lines is faulty after those before it
abbrev pub AreFaultless : List (List ℕ) → Type 0
AreFaultless lines = (before after : List (List ℕ)) (line : List ℕ) → lines ≡ before ++ line ∷ after
    → line_fault (has_length before) line ≡ None

-- the first faulty line has this fault
abbrev pub IsFirstFault : List (List ℕ) → FrameFault → Type 0
IsFirstFault lines fault =
    (before after : List (List ℕ)) × (line : List ℕ) × (lines ≡ before ++ line ∷ after) × AreFaultless before
    × (line_fault (has_length before) line ≡ Some fault)

-- `HaveLength lines result`: what field lines give: the first fault; where there is none, the length of the one `Content-Length`, or that
-- it is missing (`NoLength`)
abbrev pub HaveLength : List (List ℕ) → Result ℕ FrameFault → Type 0
HaveLength lines (Ok n) = AreFaultless lines × Any (λ line. line_length line ≡ Some n) lines
HaveLength lines (Err fault) = IsFirstFault lines fault ⊎ (AreFaultless lines × (has_length lines ≡ false) × (fault ≡ NoLength))

-- what the field lines of a header part give, as `HaveLength` has it. The law `first_fault_decides`: of a whole header part it is what
-- `header_length` computes
abbrev pub IsHeaderLength : List ℕ → Result ℕ FrameFault → Type 0
IsHeaderLength part result = (lines : List (List ℕ)) × AreFieldLines part lines × HaveLength lines result
