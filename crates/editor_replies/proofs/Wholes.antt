-- Nothing that is sent has a number with a fraction.
use Rattle.std.proofs.Common.{◌||◌, ◌≡◌, ℕ, zero, suc, ◌+◌, nat_le, ℤ, List, [], ◌∷◌, Option, Some, None, Bool, true, false, if◌then◌else◌, refl, ap}
use Rattle.definitions.specs.declared.Range.{Range}
use Rattle.serde_json.specs.Data.{Data, Items, array, item, null}
use Rattle.serde_json.specs.Written.{has_float, items_have_float}
use Rattle.replies.proofs.Replies.{reply_is_whole, result_is_whole, id_is_whole, integer_is_whole}
use Rattle.replies.specs.Replies.{id_data, published}
use Rattle.editor_replies.specs.Sent.{HoverData, Message, NumbersEdit, OfferData, SymbolData, WordedFault, of_core, brackets, capabilities, changes, colours, offers, outline, own, some_result, worded, grown, hover, cancelled, notice, call}
use Rattle.editor_replies.specs.Sending.{brackets_result, changes_result, colours_result, hover_result, offers_result, outline_result}
use Rattle.editor_replies.specs.Sending.{fault_data, forest, initialized_data, inside, listed_items, message_data, most_depth, nested_data, number_items, offer_items, text_items, value_items, without_fractions, call_data}

numbers_are_whole : (numbers : List ℕ) → items_have_float (number_items numbers) ≡ false
numbers_are_whole [] = refl
numbers_are_whole (n ∷ numbers) = numbers_are_whole numbers

texts_are_whole : (texts : List (List ℕ)) → items_have_float (text_items texts) ≡ false
texts_are_whole [] = refl
texts_are_whole (t ∷ texts) = texts_are_whole texts

colours_are_whole : (name : Option (List ℕ)) (numbers : List ℕ) → has_float (colours_result name numbers) ≡ false
colours_are_whole None numbers = ap (λ b. b || false) (numbers_are_whole numbers)
colours_are_whole (Some name) numbers = ap (λ b. b || false) (numbers_are_whole numbers)

changes_are_whole : (name : List ℕ) (change : Option NumbersEdit) → has_float (changes_result name change) ≡ false
changes_are_whole name None = refl
changes_are_whole name (Some change) = ap (λ b. ((b || false) || false) || false) (numbers_are_whole change.numbers)

offers_are_whole : (range : Range) (found : List OfferData) → items_have_float (offer_items range found) ≡ false
offers_are_whole range [] = refl
offers_are_whole range (o ∷ found) = offers_are_whole range found

-- b says whether a symbol is shown
either_is_whole : (b : Bool) (first others : Items) → items_have_float first ≡ false → items_have_float others ≡ false → items_have_float (if b then first else others) ≡ false
either_is_whole true first others one rest = one
either_is_whole false first others one rest = rest

symbol_is_whole : (s : SymbolData) (inner rest : Items) → items_have_float inner ≡ false → items_have_float rest ≡ false → items_have_float (item (nested_data s inner) rest) ≡ false
symbol_is_whole s inner rest one others = rw (one, others) refl

forest_is_whole : (levels depth : ℕ) (symbols : List SymbolData) → items_have_float (forest levels depth symbols) ≡ false
forest_is_whole zero depth [] = refl
forest_is_whole zero depth (s ∷ symbols) = forest_is_whole zero depth symbols
forest_is_whole (suc levels) depth [] = refl
forest_is_whole (suc levels) depth (s ∷ symbols) =
    let rest = forest (suc levels) depth symbols in
    let inner = forest levels (depth + 1) (inside depth symbols) in
    let others = forest_is_whole (suc levels) depth symbols in
    either_is_whole (nat_le s.depth depth) (item (nested_data s inner) rest) rest
    (symbol_is_whole s inner rest (forest_is_whole levels (depth + 1) (inside depth symbols)) others) others

list_is_whole : (uri : List ℕ) (symbols : List SymbolData) → items_have_float (listed_items uri symbols) ≡ false
list_is_whole uri [] = refl
list_is_whole uri (s ∷ symbols) = list_is_whole uri symbols

outline_is_whole : (list_of : Option (List ℕ)) (symbols : List SymbolData) → has_float (outline_result list_of symbols) ≡ false
outline_is_whole None symbols = forest_is_whole most_depth 0 symbols
outline_is_whole (Some uri) symbols = list_is_whole uri symbols

hover_is_whole : (shown : Option HoverData) → has_float (hover_result shown) ≡ false
hover_is_whole None = refl
hover_is_whole (Some h) = refl

brackets_are_whole : (pair : Option (Range × Range)) → has_float (brackets_result pair) ≡ false
brackets_are_whole None = refl
brackets_are_whole (Some pair) = refl

-- b says whether the value has a fraction
if_whole : (value : Data) (b : Bool) → has_float value ≡ b → has_float (if b then null else value) ≡ false
if_whole value true e = refl
if_whole value false e = e

values_are_whole : (values : List Data) → items_have_float (value_items values) ≡ false
values_are_whole [] = refl
values_are_whole (v ∷ values) = rw (if_whole v (has_float v) refl, values_are_whole values) refl

published_is_whole : (fault : WordedFault) (version : Option ℤ) (related : Option (List ℕ))
    → has_float (published fault.uri version (array (item (fault_data fault related) (value_items fault.behind)))) ≡ false
published_is_whole fault None None = rw (values_are_whole fault.behind) refl
published_is_whole fault None (Some text) = rw (values_are_whole fault.behind) refl
published_is_whole fault (Some version) None = rw (values_are_whole fault.behind, integer_is_whole version) refl
published_is_whole fault (Some version) (Some text) = rw (values_are_whole fault.behind, integer_is_whole version) refl

call_is_whole : (id method : List ℕ) (params : Option Data) → has_float (call_data id method params) ≡ false
call_is_whole id method None = refl
call_is_whole id method (Some params) = ap (λ b. b || false) (if_whole params (has_float params) refl)

pub message_is_whole : (message : Message) → has_float (message_data message) ≡ false
message_is_whole (of_core answer) = reply_is_whole answer
message_is_whole (own answer) = reply_is_whole answer
message_is_whole (grown answer sent) = reply_is_whole sent
message_is_whole (worded fault text) = ap (λ b. b || false) (published_is_whole fault fault.version fault.related)
message_is_whole (capabilities id unit name comment types) =
    result_is_whole (id_data id) (initialized_data unit name comment types) (id_is_whole id) (rw (texts_are_whole types) refl)
message_is_whole (colours id name numbers) = result_is_whole (id_data id) (colours_result name numbers) (id_is_whole id) (colours_are_whole name numbers)
message_is_whole (offers id range found) =
    result_is_whole (id_data id) (offers_result range found) (id_is_whole id) (ap (λ b. b || false) (offers_are_whole range found))
message_is_whole (outline id list_of symbols) =
    result_is_whole (id_data id) (outline_result list_of symbols) (id_is_whole id) (outline_is_whole list_of symbols)
message_is_whole (hover id shown) = result_is_whole (id_data id) (hover_result shown) (id_is_whole id) (hover_is_whole shown)
message_is_whole (brackets id pair) = result_is_whole (id_data id) (brackets_result pair) (id_is_whole id) (brackets_are_whole pair)
message_is_whole (some_result id value) = result_is_whole (id_data id) (without_fractions value) (id_is_whole id) (if_whole value (has_float value) refl)
message_is_whole (changes id name change) = result_is_whole (id_data id) (changes_result name change) (id_is_whole id) (changes_are_whole name change)
message_is_whole (cancelled id) = ap (λ b. b || false) (id_is_whole id)
message_is_whole (notice method params) = ap (λ b. b || false) (if_whole params (has_float params) refl)
message_is_whole (call id method params) = call_is_whole id method params
