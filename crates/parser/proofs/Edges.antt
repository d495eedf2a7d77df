-- The left edge of an input of no trees.
use Rattle.parser.proofs.Std.{arith, ◌≡◌, ℕ, List, [], ◌∷◌, Option, None, refl, slice_get, length}
use Rattle.parser.proofs.Common.{Kind, Tree, Child, Cell, Sets, Next, IsInput, IsEdge}
use Rattle.parser.proofs.WhereBranchesComeFrom.{come_all}

pub none_counted : (xs : List Child) → length xs ≡ 0 → xs ≡ []
none_counted [] e = refl
none_counted (x ∷ xs) e = absurd (omega (arith, e))

pub no_trees : (t : Sets) (cells : List Cell) (stack : List Tree) (kinds : List Kind) (read : ℕ) (kind : Option Kind) → kind ≡ slice_get kinds read
    → IsInput t.grammar cells [] kinds read → IsEdge t cells stack kinds read [] [] (record { offer = Next kind; first = None; len = 0 })
no_trees t cells stack kinds read kind is h = record {
  full = [];
  skips = ([], refl, refl);
  first = refl;
  len = refl;
  input = h;
  opened = refl;
  offers = λ f d. d;
  came = come_all [];
  offer = (is, tt);
}
