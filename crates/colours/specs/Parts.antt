-- The parts of coloured tokens on lines, and what the numbers of semantic tokens say (LSP 3.17, "Semantic Tokens").
use Rattle.std.specs.Prelude.{ℕ, ◌+◌, ◌-◌, ◌==◌, ◌&&◌, nat_le, nat_lt, if◌then◌else◌, List, [], ◌∷◌, map, flat_map, filter, slice_index_or}
use Rattle.std.specs.Prelude.{Option, Some, None}
use Rattle.std.specs.List.{range_with_len}
use Rattle.definitions.specs.declared.Kind.{Kind}
use Rattle.definitions.specs.declared.Kind.TheVariants.{Rule, Invalid}
use Rattle.definitions.specs.declared.Position.{Position}
use Rattle.definitions.specs.declared.Unit.{Unit as Encoding}
use Rattle.definitions.specs.declared.expression.Expression.{Expression}
use Rattle.definitions.specs.Answers.{end_of}
use Rattle.definitions.specs.Text.{offset, position}
use Rattle.definitions.specs.Tokens.{Token, Placed, AreTokens, placed}

-- a part of a token: its line, the units before it on the line, its own units, the number of its type in the legend, and the set of its
-- modifiers (LSP 3.17, "Semantic Tokens")
pub record Part : Type 0 where
  pub line : ℕ
  pub start : ℕ
  pub length : ℕ
  pub colour : ℕ
  pub modifiers : ℕ

-- the start of a text
abbrev pub origin : Position
origin = record { line = 0; character = 0 }

-- `moved at lines units`: the start of a part, where the part before it starts at `at`: so many lines below, and so many units further, or
-- on another line so many units from its start (LSP 3.17, "Integer Encoding for Tokens")
abbrev pub moved : Position → ℕ → ℕ → Position
moved at lines units =
    record { line = at.line + lines; character = if lines == 0 then at.character + units else units }

-- `part_at start length colour modifiers`: a part that starts there
abbrev pub part_at : Position → ℕ → ℕ → ℕ → Part
part_at start n colour modifiers =
    record { line = start.line; start = start.character; length = n; colour = colour; modifiers = modifiers }

-- `decoded_from at numbers`: the parts that numbers say, five each, where the part before them starts at `at`: lines and units up to the
-- start, then length, type and modifiers (LSP 3.17, "Integer Encoding for Tokens")
abbrev pub decoded_from : Position → List ℕ → List Part
decoded_from at (lines ∷ units ∷ n ∷ colour ∷ modifiers ∷ numbers) =
    part_at (moved at lines units) n colour modifiers ∷ decoded_from (moved at lines units) numbers
decoded_from at numbers = []

-- the parts that the numbers of a whole document say (LSP 3.17, "Integer Encoding for Tokens")
abbrev pub decoded : List ℕ → List Part
decoded numbers = decoded_from origin numbers

-- how many units line `l` has: a position past the end of a line means that end (LSP 3.17, "Position")
abbrev pub line_end : Encoding → List ℕ → ℕ → ℕ
line_end encoding t l = (position encoding t (offset encoding t (record { line = l; character = 4294967295 }))).character

-- `part_on encoding t colour from to l`: what of the text between two positions stands on line `l`
abbrev pub part_on : Encoding → List ℕ → ℕ → Position → Position → ℕ → Part
part_on encoding t colour from to l =
    let start = if l == from.line then from.character else 0 in
    let end = if l == to.line then to.character else line_end encoding t l in
    record { line = l; start = start; length = end - start; colour = colour; modifiers = 0 }

-- the same for each line, but for those on which nothing of it stands
abbrev pub parts_between : Encoding → List ℕ → ℕ → Position → Position → List Part
parts_between encoding t colour from to =
    filter (λ part. nat_lt 0 part.length) (map (part_on encoding t colour from to) (range_with_len from.line (to.line + 1 - from.line)))

-- `colour_of palette kind`: the colour of a kind: its rule's, if that has one
abbrev pub colour_of : List (Option ℕ) → Kind → Option ℕ
colour_of palette (Rule k) = slice_index_or palette k None
colour_of palette Invalid = None

-- the parts of what stands between two positions, in this colour, if it has one
abbrev pub parts_in : Encoding → List ℕ → Position → Position → Option ℕ → List Part
parts_in encoding t from to None = []
parts_in encoding t from to (Some colour) = parts_between encoding t colour from to

-- the parts of a placed token, if its rule has a colour
abbrev pub parts_of : Encoding → List ℕ → List (Option ℕ) → Placed → List Part
parts_of encoding t palette x =
    parts_in encoding t (position encoding t x.start) (position encoding t (end_of x)) (colour_of palette x.token.kind)

-- `coloured_from encoding t palette o tokens`: the parts of tokens, in order, where the first token starts at offset `o`
abbrev pub coloured_from : Encoding → List ℕ → List (Option ℕ) → ℕ → List Token → List Part
coloured_from encoding t palette o tokens = flat_map (parts_of encoding t palette) (placed o tokens)

-- the same for all tokens of `t`
abbrev pub coloured : Encoding → List ℕ → List (Option ℕ) → List Token → List Part
coloured encoding t palette tokens = coloured_from encoding t palette 0 tokens

-- `within from to parts`: those that stand on line `from` or below it, and above line `to`
abbrev pub within : ℕ → ℕ → List Part → List Part
within from to parts = filter (λ part. nat_le from part.line && nat_lt part.line to) parts

-- `Scans rules t Says`: `t` has tokens by these rules of which `Says` holds
abbrev pub Scans : List Expression → List ℕ → (List Token → Type 0) → Type 0
Scans rules t Says = (tokens : List Token) × AreTokens rules t tokens × Says tokens
