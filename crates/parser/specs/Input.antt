-- The input of the machine: trees of the store, and after them the kinds that these don't cover.
use Rattle.std.specs.Prelude.{◌≡◌, ℕ, ◌+◌, ◌<◌, List, [], ◌∷◌, ◌++◌, length, drop, Option, MatchOption}
use Rattle.definitions.specs.declared.Kind.{Kind}
use Rattle.definitions.specs.declared.Symbol.TheVariants.{Nonterminal}
use Rattle.definitions.specs.Trees.{Grammar, Tree, Leaf, Branch, IsTree, all_kinds, yield}
use Rattle.definitions.specs.TreeEdits.{plain}
use Rattle.trees.specs.declared.store.Child.{Child}
use Rattle.trees.specs.Cells.{Cell, AreBelow, tree}
use Rattle.parser.specs.Machine.{plain_of}

-- a list from its end to its start
abbrev pub backwards : {A : Type 0} → List A → List A
backwards [] = []
backwards (x ∷ xs) = backwards xs ++ (x ∷ [])

-- each kind as a tree
abbrev pub leaves : List Kind → List Tree
leaves [] = []
leaves (k ∷ ks) = Leaf k ∷ leaves ks

-- these trees, which begin after as many kinds as were read, and the kinds from where they end
abbrev pub before_leaves : List Tree → List Kind → ℕ → List Tree
before_leaves ts kinds read = ts ++ leaves (drop (read + length (all_kinds ts)) kinds)

-- the input: the trees of these children, which begin after `read` kinds, and as leaves the kinds that they don't cover
abbrev pub input_of : List Cell → List Child → List Kind → ℕ → List Tree
input_of cells cs kinds read = before_leaves (plain_of cells cs) kinds read

-- `IsPart g t`: the tree is a kind, or a tree of the grammar
abbrev pub IsPart : Grammar → Tree → Type 0
IsPart g (Leaf k) = Unit {0}
IsPart g (Branch p ts) = (left : ℕ) × IsTree g (Branch p ts) (Nonterminal left)

-- `AreParts g ts`: `IsPart` holds of each of the trees
abbrev pub AreParts : Grammar → List Tree → Type 0
AreParts g [] = Unit {0}
AreParts g (t ∷ ts) = IsPart g t × AreParts g ts

-- these children are in the store and parts of the grammar, and the input has the kinds after the first `read`
pub record IsInput (g : Grammar) (cells : List Cell) (cs : List Child) (kinds : List Kind) (read : ℕ) : Type 0 where
  pub below : AreBelow (length cells) cs
  pub parts : AreParts g (plain_of cells cs)
  pub covers : all_kinds (input_of cells cs kinds read) ≡ drop read kinds

-- the first child has kinds, where there is one
abbrev pub IsFull : List Cell → List Child → Type 0
IsFull cells [] = Unit {0}
IsFull cells (c ∷ rest) = 0 < length (yield (plain (tree cells c)))

-- trees of no kinds are gone from the start
abbrev pub Skips : List Cell → List Child → List Child → Type 0
Skips cells old new = (gone : List Child) × (old ≡ gone ++ new) × (all_kinds (plain_of cells gone) ≡ [])

-- the first of the children, where there is one
abbrev pub BeginsWith : List Child → Option Child → Type 0
BeginsWith cs first = MatchOption first (cs ≡ []) (λ c. (rest : List Child) × (cs ≡ c ∷ rest))

-- in the place of the first child there are any children
abbrev pub IsOpened : List Child → List Child → Type 0
IsOpened [] new = new ≡ []
IsOpened (c ∷ rest) new = (opened : List Child) × (new ≡ opened ++ rest)
