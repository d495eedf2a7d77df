-- What the left edge of the input offers the machine.
use Rattle.std.specs.Prelude.{◌≡◌, ℕ, ◌+◌, List, [], ◌∷◌, ◌++◌, length, drop, slice_get}
use Rattle.definitions.specs.declared.Kind.{Kind}
use Rattle.definitions.specs.declared.Symbol.{Symbol}
use Rattle.definitions.specs.declared.Symbol.TheVariants.{Nonterminal}
use Rattle.definitions.specs.Trees.{Grammar, Tree, HaveRoots, IsTree, yield}
use Rattle.definitions.specs.TreeEdits.{plain}
use Rattle.trees.specs.declared.store.NodeId.{NodeId}
use Rattle.trees.specs.declared.store.Child.{Child}
use Rattle.trees.specs.declared.store.Child.TheVariants.{Token, Node}
use Rattle.trees.specs.Cells.{Cell, tree}
use Rattle.theory.specs.Reuse.{NextInput, CanReuse, Tries}
use Rattle.tables.specs.Tables.{Sets, IsStateOf}
use Rattle.parser.specs.declared.machine.FirstInput.{FirstInput as Offer}
use Rattle.parser.specs.declared.machine.FirstInput.TheVariants.{Tree as OffersTree, Next as OffersNext}

-- whatever the left edge of the input `one` offers, that of `two` offers too
abbrev pub Offers : Grammar → List Tree → List Tree → List Tree → Type 0
Offers g stack one two = (f : NextInput) → Tries g stack one f → Tries g stack two f

-- the tree of a node can be taken over, and `next` is the state after it
pub record IsReusable (t : Sets) (cells : List Cell) (stack : List Tree) (kinds : List Kind) (read : ℕ) (id : NodeId)
    (next : ℕ) : Type 0 where
  pub left : ℕ
  pub is : IsTree t.grammar (plain (tree cells (Node id))) (Nonterminal left)
  pub goes : (symbols : List Symbol) → HaveRoots t.grammar stack symbols → IsStateOf t (symbols ++ (Nonterminal left ∷ [])) next
  pub can : CanReuse t.grammar stack (plain (tree cells (Node id))) (drop (read + length (yield (plain (tree cells (Node id))))) kinds)

-- the input begins with no node
abbrev pub BeginsWithNoNode : List Child → Type 0
BeginsWithNoNode [] = Unit {0}
BeginsWithNoNode (Token k ∷ rest) = Unit {0}
BeginsWithNoNode (Node id ∷ rest) = ⊥

-- `IsOffer t cells stack kinds read cs offer`: what the code offers the machine is what stands first in the input
abbrev pub IsOffer : Sets → List Cell → List Tree → List Kind → ℕ → List Child → Offer → Type 0
IsOffer t cells stack kinds read now (OffersTree id next) = ((rest : List Child) × (now ≡ Node id ∷ rest))
    × IsReusable t cells stack kinds read id next
IsOffer t cells stack kinds read now (OffersNext look) = (look ≡ slice_get kinds read) × BeginsWithNoNode now
