-- Words of the laws, which are the contracts of src/laws.rt.
use Rattle.std.specs.Prelude.{◌≡◌, ℕ, ◌+◌, ◌-◌, ◌≤◌, List, length, take, slice_index}
use Rattle.std.specs.List.{AllByRecursion}
use Rattle.definitions.specs.declared.Position.{Position}
use Rattle.definitions.specs.declared.Unit.{Unit as Encoding}
use Rattle.definitions.specs.declared.Edit.{Edit}
use Rattle.definitions.specs.declared.expression.Expression.{Expression}
use Rattle.definitions.specs.declared.expression.Interval.{Interval}
use Rattle.definitions.specs.Text.{IsCharacter, carriage_return, line_feed, break_ends, line_start, line_from, units, edit}
use Rattle.definitions.specs.Tokens.{Token, AreTokens}

-- the offset lies in the text or at its end, and isn't between a `\r` and its `\n`
abbrev pub IsInLine : List ℕ → ℕ → Type 0
IsInLine t o = (o ≤ length t) × ¬ ((1 ≤ o) × (slice_index t (o - 1) ≡ carriage_return) × (slice_index t o ≡ line_feed))

-- the position counts whole characters of a line of the text
abbrev pub IsPlace : Encoding → List ℕ → Position → Type 0
IsPlace encoding t p =
    (n : ℕ) × (p.line ≤ length (break_ends 0 t)) × (n ≤ length (line_from (line_start t p.line) t))
    × (p.character ≡ units encoding (take n (line_from (line_start t p.line) t)))

-- the offset lies in the line, which begins at `start`, the line has at most `count` units before it, and it is the greatest such
pub record IsOffset (encoding : Encoding) (start : ℕ) (line : List ℕ) (count o : ℕ) : Type 0 where
  pub from : start ≤ o
  pub to : o ≤ start + length line
  pub counted : units encoding (take (o - start) line) ≤ count
  pub greatest : (m : ℕ) → start ≤ m → m ≤ start + length line → units encoding (take (m - start) line) ≤ count → m ≤ o

-- `o` is the offset of the position `p`, by `IsOffset` in its line
abbrev pub IsOffsetOf : Encoding → List ℕ → Position → ℕ → Type 0
IsOffsetOf encoding t p o = IsOffset encoding (line_start t p.line) (line_from (line_start t p.line) t) p.character o

-- each interval has two characters as its ends, the first at most the last
abbrev pub AreWell : List Interval → Type 0
AreWell intervals = AllByRecursion (λ i. IsCharacter i.first × IsCharacter i.last × (i.first ≤ i.last)) intervals

-- `old` are the tokens of `t`, and `new` those of `t` after the edit, which puts `s` into it
pub record IsTokenEdit (rules : List Expression) (t s : List ℕ) (e : Edit) (old new : List Token) : Type 0 where
  pub inside : e.at + e.removed ≤ length t
  pub inserted : e.inserted ≡ length s
  pub before : AreTokens rules t old
  pub after : AreTokens rules (edit t e.at (e.at + e.removed) s) new
