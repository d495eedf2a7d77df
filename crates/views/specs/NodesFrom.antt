-- The nodes of a list of trees that begins at a place other than 0.
use Rattle.std.specs.Prelude.{◌≡◌, ℕ, ◌+◌, List, length}
use Rattle.definitions.specs.declared.Symbol.{Symbol}
use Rattle.definitions.specs.Trees.{Grammar, Tree, Forest, Branch, HasProduction, yields}
use Rattle.definitions.specs.Nodes.{StandsIn, place_of}
use Rattle.definitions.specs.Answers.{Node}

-- a node of the list, where the first tree begins at this place
abbrev pub IsNodeFrom : Grammar → ℕ → List Tree → Node → Type 0
IsNodeFrom g from ts n =
    (lefts : List Tree) × (p : ℕ) × (us : Forest) × (right : List Symbol) × StandsIn ts lefts (Branch p us)
    × HasProduction g p n.symbol right × (n.from ≡ from + place_of lefts) × (n.to ≡ from + place_of lefts + length (yields us))
