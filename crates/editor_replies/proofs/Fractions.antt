-- Where the numbers of lists and objects have fractions.
use Rattle.std.proofs.Common.{◌≡◌, ◌+◌, ◌<◌, ◌||◌, ℕ, Bool, true, false, List, length, drop, get_or, refl, ap}
use Rattle.std.specs.Prelude.{not}
use Rattle.std.proofs.lemmas.List.{drop_more}
use Rattle.serde_json.specs.View.{items_view, view}
use Rattle.serde_json.specs.Written.{has_float, items_have_float}
use Rattle.serde_json.specs.declared.value.Value.{Value}

-- whether the items from place k on have one, by whether the first of them has
pub from_item : (xs : List Value) (k : ℕ) (d : Value) → k < length xs
    → items_have_float (items_view (drop k xs)) ≡ has_float (view (get_or xs k d)) || items_have_float (items_view (drop (k + 1) xs))
from_item xs k d within = ap (λ l. items_have_float (items_view l)) (drop_more xs k d within)

-- what isn't whole has one
pub of_not : (b whole : Bool) → whole ≡ not b → whole ≡ false → b ≡ true
of_not true whole e f = refl
of_not false whole e f = absurd (let g : ⊥ = cc in g)

pub of_whole : (b whole : Bool) → whole ≡ not b → whole ≡ true → b ≡ false
of_whole true whole e f = absurd (let g : ⊥ = cc in g)
of_whole false whole e f = refl
