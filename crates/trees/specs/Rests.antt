-- Children of a node that are still to come.
use Rattle.std.specs.Prelude.{List, map}
use Rattle.trees.specs.declared.store.Child.{Child}
use Rattle.trees.specs.declared.children.Rest.{Rest}
use Rattle.trees.specs.declared.children.Rest.TheVariants.{Narrow, Wide}
use Rattle.trees.specs.Packing.{unpack}

abbrev pub children_in : Rest → List Child
children_in (Narrow numbers) = map unpack numbers.now
children_in (Wide children) = children.now
