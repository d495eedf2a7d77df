-- No reply has a number with a fraction.
use Rattle.replies.proofs.Std.{◌≡◌, ℕ, ℤ, pos, negsuc, false, List, [], ◌∷◌, map, refl, ap, ◌∙◌, ◌||◌, Option, Some, None, Data, null, number, string, of_integer, items_of, has_float, items_have_float}
use Rattle.replies.proofs.Common.{Range}
use Rattle.replies.proofs.Common.{Ident, named, numbered, Answer}
use Rattle.replies.proofs.Common.{capabilities_reply, null_reply, text_reply, tokens_reply, tree_reply, stats_reply, folds_reply, selections_reply, published_diagnostics, log_message, error_reply, capabilities, id_data, maybe_id_data, row_data, result_data, reply_data, document_data, rows_data}
use Rattle.replies.proofs.Common.{stats_data, fold_data, folds_data, selection_data, selections_data, diagnostic_list, published, code_of}

pub integer_is_whole : (z : ℤ) → has_float (number (of_integer z)) ≡ false
integer_is_whole (pos n) = refl
integer_is_whole (negsuc n) = refl

pub id_is_whole : (id : Ident) → has_float (id_data id) ≡ false
id_is_whole (named text) = refl
id_is_whole (numbered z) = integer_is_whole z

maybe_id_is_whole : (id : Option Ident) → has_float (maybe_id_data id) ≡ false
maybe_id_is_whole None = refl
maybe_id_is_whole (Some id) = id_is_whole id

rows_are_whole : (rows : List (List ℕ × Range)) → items_have_float (items_of (map row_data rows)) ≡ false
rows_are_whole [] = refl
rows_are_whole (r ∷ rows) = rows_are_whole rows

folds_are_whole : (pairs : List (ℕ × ℕ)) → items_have_float (items_of (map fold_data pairs)) ≡ false
folds_are_whole [] = refl
folds_are_whole (p ∷ pairs) = folds_are_whole pairs

selection_is_whole : (ranges : List Range) → has_float (selection_data ranges) ≡ false
selection_is_whole (r ∷ s ∷ rest) = ap (λ b. b || false) (selection_is_whole (s ∷ rest))
selection_is_whole d = refl

selections_are_whole : (selections : List (List Range)) → items_have_float (items_of (map selection_data selections)) ≡ false
selections_are_whole [] = refl
selections_are_whole (s ∷ selections) = ap (λ b. b || items_have_float (items_of (map selection_data selections))) (selection_is_whole s) ∙ selections_are_whole selections

published_is_whole : (uri : List ℕ) (version : Option ℤ) (d : Option (Range × List ℕ)) → has_float (published uri version (diagnostic_list d)) ≡ false
published_is_whole uri None None = refl
published_is_whole uri None (Some d) = refl
published_is_whole uri (Some version) None = ap (λ b. b || false) (integer_is_whole version)
published_is_whole uri (Some version) (Some d) = ap (λ b. b || false) (integer_is_whole version)

pub result_is_whole : (id outcome : Data) → has_float id ≡ false → has_float outcome ≡ false → has_float (result_data id outcome) ≡ false
result_is_whole id outcome e f = ap (λ b. b || (has_float outcome || false)) e ∙ ap (λ b. b || false) f

pub reply_is_whole : (a : Answer) → has_float (reply_data a) ≡ false
reply_is_whole (capabilities_reply id unit) = result_is_whole (id_data id) (capabilities unit) (id_is_whole id) refl
reply_is_whole (null_reply id) = result_is_whole (id_data id) null (id_is_whole id) refl
reply_is_whole (text_reply id version text) = result_is_whole (id_data id) (document_data version text) (id_is_whole id) (ap (λ b. b || false) (integer_is_whole version))
reply_is_whole (tokens_reply id rows) = result_is_whole (id_data id) (rows_data rows) (id_is_whole id) (rows_are_whole rows)
reply_is_whole (tree_reply id text) = result_is_whole (id_data id) (string text) (id_is_whole id) refl
reply_is_whole (stats_reply id s) = result_is_whole (id_data id) (stats_data s) (id_is_whole id) refl
reply_is_whole (folds_reply id pairs) = result_is_whole (id_data id) (folds_data pairs) (id_is_whole id) (folds_are_whole pairs)
reply_is_whole (selections_reply id selections) = result_is_whole (id_data id) (selections_data selections) (id_is_whole id) (selections_are_whole selections)
reply_is_whole (published_diagnostics uri version d) = ap (λ b. b || false) (published_is_whole uri version d)
reply_is_whole (log_message log) = refl
reply_is_whole (error_reply id refusal) = ap (λ b. (b || false) || (has_float (maybe_id_data id) || false)) (integer_is_whole (code_of refusal)) ∙ ap (λ b. b || false) (maybe_id_is_whole id)
