-- The faults of header parts, and the lengths that they give.
use Rattle.frames.proofs.Std.{◌≡◌, ◌≤◌, ◌-◌, ◌&&◌, ℕ, Bool, true, false, not, List, [], ◌∷◌, length, take, refl, sym, subst, Option, Some, None, is_some, option_and_then, cond, Result, Ok, Err, IfSome, IfOk, IfErr, nat_le, ok_or, option_or, option_map_or, digits_value, leb-true}
use Rattle.frames.proofs.Common.{FrameFault, BadField, NoLength, BadCharset, LongHeader, is_content_length, is_content_type, is_utf8_type, is_number, length_value, length_fault, field_fault, field_length, line_fault, line_length, field_of, lines_of, lines_length, header_length, IsStreamFault}

pub long_header : IsStreamFault LongHeader
long_header = ((λ e. cc), (λ e. cc))

-- a fault, if there is one, is one of the bytes
abbrev AreStreamFaults : Option FrameFault → Type 0
AreStreamFaults o = IfSome o IsStreamFault

length_faults : (is_given : Bool) (o : Option ℕ) → AreStreamFaults (length_fault is_given o)
length_faults true o = ((λ e. cc), (λ e. cc))
length_faults false None = ((λ e. cc), (λ e. cc))
length_faults false (Some n) = tt

charset_faults : (b : Bool) → AreStreamFaults (cond b (Some BadCharset) None)
charset_faults true = ((λ e. cc), (λ e. cc))
charset_faults false = tt

either_faults : (b : Bool) (one other : Option FrameFault) → AreStreamFaults one → AreStreamFaults other → AreStreamFaults (cond b one other)
either_faults true one other h k = h
either_faults false one other h k = k

field_faults : (is_given : Bool) (field : List ℕ × List ℕ) → AreStreamFaults (field_fault is_given field)
field_faults is_given field = either_faults (is_content_length field.0) _ _ (length_faults is_given (length_value field.1)) (charset_faults (is_content_type field.0 && not (is_utf8_type field.1)))

line_faults : (is_given : Bool) (line : List ℕ) → AreStreamFaults (line_fault is_given line)
line_faults is_given line = by_field (field_of line)
  where
    by_field : (o : Option (List ℕ × List ℕ)) → AreStreamFaults (option_map_or (field_fault is_given) o (Some BadField))
    by_field None = ((λ e. cc), (λ e. cc))
    by_field (Some field) = field_faults is_given field

-- a length is at most the longest content's
abbrev IsSmall : Option ℕ → Type 0
IsSmall o = IfSome o (λ n. n ≤ 16777216)

number_small : (is_number is_small : Bool) (n : ℕ) → nat_le n 16777216 ≡ is_small → IsSmall (cond (is_number && is_small) (Some n) None)
number_small false is_small n h = tt
number_small true false n h = tt
number_small true true n h = leb-true n 16777216 h

field_small : (b : Bool) (value : List ℕ) → IsSmall (cond b (length_value value) None)
field_small true value = number_small (is_number value) (nat_le (digits_value 10 value) 16777216) (digits_value 10 value) refl
field_small false value = tt

line_small : (line : List ℕ) → IsSmall (line_length line)
line_small line = by_field (field_of line)
  where
    by_field : (o : Option (List ℕ × List ℕ)) → IsSmall (option_and_then field_length o)
    by_field None = tt
    by_field (Some field) = field_small (is_content_length field.0) field.1

either_small : (one other : Option ℕ) → IsSmall one → IsSmall other → IsSmall (option_or one other)
either_small None other h k = k
either_small (Some n) other h k = h

-- a length that is small, or a fault of the bytes
abbrev IsReported : Result ℕ FrameFault → Type 0
IsReported (Ok n) = n ≤ 16777216
IsReported (Err fault) = IsStreamFault fault

end_shown : (given : Option ℕ) → IsSmall given → IsReported (ok_or given NoLength)
end_shown None small = ((λ e. cc), (λ e. cc))
end_shown (Some n) small = small

line_or_later : (o : Option FrameFault) (later : Result ℕ FrameFault) → AreStreamFaults o → IsReported later → IsReported (option_map_or (λ fault. Err fault) o later)
line_or_later None later h k = k
line_or_later (Some fault) later h k = h

lines_shown : (given : Option ℕ) (lines : List (List ℕ)) → IsSmall given → IsReported (lines_length given lines)
lines_shown given [] small = end_shown given small
lines_shown given (line ∷ lines) small =
    let now = option_or given (line_length line) in
    line_or_later (line_fault (is_some given) line) (lines_length now lines) (line_faults (is_some given) line) (lines_shown now lines (either_small given (line_length line) small (line_small line)))

header_shown : (part : List ℕ) → IsReported (header_length part)
header_shown part = lines_shown None (lines_of (take (length part - 2) part)) tt

pub header_faults : (part : List ℕ) (fault : FrameFault) → header_length part ≡ Err fault → IsStreamFault fault
header_faults part fault h = subst IsReported h (header_shown part)

pub header_small : (part : List ℕ) (r : Result ℕ FrameFault) → r ≡ header_length part → IfOk r (λ n. n ≤ 16777216)
header_small part (Ok n) h = subst IsReported (sym h) (header_shown part)
header_small part (Err fault) h = tt

pub header_fails : (part : List ℕ) (r : Result ℕ FrameFault) → r ≡ header_length part → IfErr r IsStreamFault
header_fails part (Ok n) h = tt
header_fails part (Err fault) h = header_faults part fault (sym h)
