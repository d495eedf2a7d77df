-- What a part of a text adds up to, by the definitions of lines and positions, and what the sums of two parts join to.
use Rattle.std.specs.Prelude.{ℕ, zero, suc, ◌+◌, ◌-◌, ◌≤◌, ◌^◌, Bool, false, not, ◌||◌, ◌&&◌, ◌==◌, nat_lt, if◌then◌else◌, List, []}
use Rattle.std.specs.Prelude.{◌∷◌, ◌++◌, length}
use Rattle.seqtree.specs.Saturated.{saturated}
use Rattle.definitions.specs.declared.Position.{Position}
use Rattle.definitions.specs.declared.Unit.{Unit as Encoding}
use Rattle.definitions.specs.declared.Unit.TheVariants.{Utf8, Utf16, Utf32}
use Rattle.definitions.specs.Text.{carriage_return, line_feed, begins_with, unit, units, position}
use Rattle.pieces.specs.declared.sums.Units.{Units}
use Rattle.pieces.specs.declared.sums.Counts.{Counts}
use Rattle.pieces.specs.declared.sums.Sums.{Sums}
use Rattle.pieces.specs.declared.sums.Sums.TheVariants.{Empty, Filled}
use Rattle.pieces.specs.declared.sums.AfterCharacter.{AfterCharacter}
use Rattle.pieces.specs.declared.sums.AfterPosition.{AfterPosition}

-- `ends_with c t`: whether the last character of `t` is `c`
abbrev pub ends_with : ℕ → List ℕ → Bool
ends_with c [] = false
ends_with c (d ∷ []) = c == d
ends_with c (d ∷ e ∷ t) = ends_with c (e ∷ t)

-- the position of the end of `t`, where a `\n` comes next, so that a `\r` at the end of `t` is no break yet
abbrev pub end_before_feed : Encoding → List ℕ → Position
end_before_feed encoding t = position encoding (t ++ line_feed ∷ []) (length t)

-- the characters and bytes of `t`, the line and, in each of the three units, the character of `end_before_feed`, and whether `t` begins
-- with `\n` and ends with `\r`
abbrev pub counts_of : List ℕ → Counts
counts_of t =
    record {
      characters = length t;
      bytes = units Utf8 t;
      breaks = (end_before_feed Utf8 t).line;
      units_after =
          record {
            utf8 = (end_before_feed Utf8 t).character;
            utf16 = (end_before_feed Utf16 t).character;
            utf32 = (end_before_feed Utf32 t).character;
          };
      begins_with_feed = begins_with line_feed t;
      ends_with_return = ends_with carriage_return t;
    }

-- `sums_of t`: the sum of `t`: `Empty` for the empty text, and `counts_of` for any other
abbrev pub sums_of : List ℕ → Sums
sums_of [] = Empty
sums_of (c ∷ t) = Filled (counts_of (c ∷ t))

-- no units in each of the three encodings
abbrev pub no_units : Units
no_units = record { utf8 = 0; utf16 = 0; utf32 = 0 }

-- the units of a character in each of the three encodings
abbrev pub units_of : ℕ → Units
units_of c = record { utf8 = unit Utf8 c; utf16 = unit Utf16 c; utf32 = unit Utf32 c }

-- the units of `n` characters below 128
abbrev pub ascii_units : ℕ → Units
ascii_units n = record { utf8 = n; utf16 = n; utf32 = n }

-- the units that a character counts for in its line: none for `\r` and `\n`
abbrev pub shown_units : ℕ → Units
shown_units c =
    if c == line_feed || c == carriage_return
    then no_units
    else units_of c

-- 2^32 - 1, the greatest number that is stored
abbrev pub most : ℕ
most = 2 ^ 32 - 1

-- `a + b`, `saturated` at `most`
abbrev pub sum : ℕ → ℕ → ℕ
sum a b = saturated most a b

-- the `sum` of two counts of units, encoding by encoding
abbrev pub units_joined : Units → Units → Units
units_joined a b = record { utf8 = sum a.utf8 b.utf8; utf16 = sum a.utf16 b.utf16; utf32 = sum a.utf32 b.utf32 }

-- `count_of encoding a`: a count of units in one encoding
abbrev pub count_of : Encoding → Units → ℕ
count_of Utf8 a = a.utf8
count_of Utf16 a = a.utf16
count_of Utf32 a = a.utf32

-- how many breaks end after the part `a`, where the part `b` follows: those in `b`, and that of a `\r` at the end of `a` where `b` does not
-- begin with `\n`
abbrev pub later_breaks : Counts → Counts → ℕ
later_breaks a b = sum (if a.ends_with_return && not b.begins_with_feed then 1 else 0) b.breaks

-- `after_joined n a b`: the units after the last break of two parts, where `n` breaks end after the first: those of both where there is
-- none, and otherwise those of the second
abbrev pub after_joined : ℕ → Units → Units → Units
after_joined zero a b = units_joined a b
after_joined (suc n) a b = b

-- the counts of two nonempty parts, one after the other
abbrev pub counts_joined : Counts → Counts → Counts
counts_joined a b =
    record {
      characters = sum a.characters b.characters;
      bytes = sum a.bytes b.bytes;
      breaks = sum a.breaks (later_breaks a b);
      units_after = after_joined (later_breaks a b) a.units_after b.units_after;
      begins_with_feed = a.begins_with_feed;
      ends_with_return = b.ends_with_return;
    }

-- `joined a b`: the sum of what has the sum `a` and, after it, of what has the sum `b`: the break of a `\r` at the end of the first is
-- counted where the second does not begin with `\n`
abbrev pub joined : Sums → Sums → Sums
joined Empty b = b
joined (Filled a) Empty = Filled a
joined (Filled a) (Filled b) = Filled (counts_joined a b)

-- the units `a` and those of the character `c` together are at most `most`
pub record HaveRoom (a : Units) (c : ℕ) : Type 0 where
  pub utf8 : a.utf8 + unit Utf8 c ≤ most
  pub utf16 : a.utf16 + unit Utf16 c ≤ most
  pub utf32 : a.utf32 + unit Utf32 c ≤ most

-- whether there are no units
abbrev pub is_none : Units → Bool
is_none a = a.utf8 == 0 && (a.utf16 == 0 && a.utf32 == 0)

-- the sum of characters with these units, of which none is a `\r` or a `\n`
abbrev pub line_sums : Units → Sums
line_sums a =
    if is_none a
    then Empty
    else Filled (record {
      characters = a.utf32;
      bytes = a.utf8;
      breaks = 0;
      units_after = a;
      begins_with_feed = false;
      ends_with_return = false;
    })

-- `is_after_character goal sum`: whether a text with this sum has more characters than an offset
abbrev pub is_after_character : AfterCharacter → Sums → Bool
is_after_character g Empty = false
is_after_character g (Filled a) = nat_lt g.offset a.characters

-- `is_after_position goal sum`: whether the end of a text with this sum, as `end_before_feed` has it, is past a position
abbrev pub is_after_position : AfterPosition → Sums → Bool
is_after_position g Empty = false
is_after_position g (Filled a) =
    nat_lt g.position.line a.breaks
    || ((a.breaks == g.position.line && nat_lt g.position.line most) && nat_lt g.position.character (count_of g.unit a.units_after))
