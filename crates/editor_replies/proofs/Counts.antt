-- How many JSON values there are.
use Rattle.std.proofs.Common.{◌≡◌, suc, ◌+◌, List, [], ◌∷◌, length, map, refl, ap, arith}
use Rattle.std.proofs.lemmas.List.{length-map}
use Rattle.serde_json.specs.Data.{Data}
use Rattle.serde_json.specs.Events.{items_len}
use Rattle.serde_json.specs.View.{view}
use Rattle.serde_json.specs.declared.value.Value.{Value}
use Rattle.editor_replies.specs.Sending.{value_items}

values_len : (values : List Data) → items_len (value_items values) ≡ length values
values_len [] = refl
values_len (v ∷ values) = ap suc (values_len values)

-- one more than there are values of the code
pub one_more : (values : List Value) → length values + 1 ≡ suc (items_len (value_items (map view values)))
one_more values = omega (arith, values_len (map view values), length-map values view)
