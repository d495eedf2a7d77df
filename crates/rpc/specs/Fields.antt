-- The members of a JSON value.
use Rattle.std.specs.Prelude.{ℕ, ℤ, pos, negsuc, ◌^◌, nat_lt, if◌then◌else◌, Bool, List, Option, Some, None, option_and_then, is_some}
use Rattle.serde_json.specs.Data.{Data}
use Rattle.serde_json.specs.Find.{get, as_str, as_number, as_u64, as_i64}

-- `fits_i32 z`: the whole number `z`, where it is from -2^31 to 2^31 - 1; otherwise none
abbrev pub fits_i32 : ℤ → Option ℤ
fits_i32 (pos n) = if nat_lt n (2 ^ 31) then Some (pos n) else None
fits_i32 (negsuc n) = if nat_lt n (2 ^ 31) then Some (negsuc n) else None

-- the whole number that a JSON value is, where it passes `fits_i32` (LSP 3.17, "Base Types", "integer")
abbrev pub integer_of : Data → Option ℤ
integer_of d = option_and_then fits_i32 (option_and_then as_i64 (as_number d))

-- the number `n`, where it is below 2^31; otherwise none
abbrev pub fits_u31 : ℕ → Option ℕ
fits_u31 n = if nat_lt n (2 ^ 31) then Some n else None

-- the whole number from 0 that a JSON value is, where it passes `fits_u31` (LSP 3.17, "Base Types", "uinteger")
abbrev pub natural_of : Data → Option ℕ
natural_of d = option_and_then fits_u31 (option_and_then as_u64 (as_number d))

-- the text under a key of a JSON object
abbrev pub text_at : List ℕ → Data → Option (List ℕ)
text_at key d = option_and_then as_str (get key d)

-- the whole number under a key of a JSON object, as `integer_of`
abbrev pub integer_at : List ℕ → Data → Option ℤ
integer_at key d = option_and_then integer_of (get key d)

-- the whole number from 0 under a key of a JSON object, as `natural_of`
abbrev pub natural_at : List ℕ → Data → Option ℕ
natural_at key d = option_and_then natural_of (get key d)

-- whether anything stands under a key of a JSON object
abbrev pub has_key : List ℕ → Data → Bool
has_key key d = is_some (get key d)
