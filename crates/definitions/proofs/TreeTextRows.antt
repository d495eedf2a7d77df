-- The text of the tree of `1+2`.
use Rattle.std.specs.Prelude.{◌≡◌, [], ◌∷◌, codes, refl}
use Rattle.definitions.specs.declared.Kind.TheVariants.{Rule}
use Rattle.definitions.specs.DocumentNodes.{tree_text}
use Rattle.definitions.specs.Trees.{Tree, Leaf, Branch, forest}

atom : Tree
atom = Branch 2 (forest (Leaf (Rule 0) ∷ []))

sum : tree_text (codes "NUM" ∷ codes "PLUS" ∷ codes "LP" ∷ codes "RP" ∷ []) (codes "Sum" ∷ codes "Atom" ∷ []) (0 ∷ 0 ∷ 1 ∷ 1 ∷ [])
    (Branch 0 (forest (Branch 1 (forest (atom ∷ [])) ∷ Leaf (Rule 1) ∷ atom ∷ []))) ≡ codes "(Sum (Sum (Atom NUM)) PLUS (Atom NUM))"
unfolding atom
sum = refl
