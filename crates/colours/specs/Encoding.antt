-- How numbers are put one after another.
use Rattle.std.specs.Prelude.{◌≡◌, ◌≤◌, ◌*◌, ℕ, List, [], ◌∷◌, ◌++◌, length, filter, nat_lt, if◌then◌else◌}
use Rattle.definitions.specs.declared.Position.{Position}
use Rattle.colours.specs.Parts.{Part, decoded_from, origin}

-- the first position isn't after the second
pub record IsUpTo (p q : Position) : Type 0 where
  pub lines : p.line ≤ q.line
  pub units : p.line ≡ q.line → p.character ≤ q.character

-- these numbers say these parts and nothing else, and what follows counts from `last` on
pub record AreEncoded (parts : List Part) (numbers : List ℕ) (last : Position) : Type 0 where
  pub decoded : (rest : List ℕ) → decoded_from origin (numbers ++ rest) ≡ parts ++ decoded_from last rest
  pub whole : length numbers ≡ 5 * length parts

-- `part_if line start n colour`: the part of `n` units that starts there, if they are any
abbrev pub part_if : ℕ → ℕ → ℕ → ℕ → List Part
part_if line start n colour =
    filter (λ part. nat_lt 0 part.length) (record { line = line; start = start; length = n; colour = colour; modifiers = 0 } ∷ [])

-- the start of line `l`
abbrev pub start_of : ℕ → Position
start_of l = record { line = l; character = 0 }

-- the position, or the start of line `l` if that comes after it
abbrev pub not_above : ℕ → Position → Position
not_above l p = if nat_lt p.line l then start_of l else p

-- the position, or the start of line `l` if that comes before it
abbrev pub not_below : ℕ → Position → Position
not_below l p = if nat_lt p.line l then p else start_of l
