-- What a request is answered with, as a JSON value.
use Rattle.std.specs.Prelude.{map}
use Rattle.serde_json.specs.Data.{Data, null, string}
use Rattle.replies.specs.declared.results.Outcome.{Outcome}
use Rattle.replies.specs.declared.results.Outcome.TheVariants.{Null, Capabilities, Document, Rows, Tree, Stats, Folds, Selections}
use Rattle.replies.specs.Replies.{capabilities, document_data, row_view, rows_data, stats_data, folds_data, selections_data}

-- `outcome_data outcome`: the JSON value of the result of a reply
abbrev pub outcome_data : Outcome → Data
outcome_data Null = null
outcome_data (Capabilities unit) = capabilities unit
outcome_data (Document version text) = document_data version text.now
outcome_data (Rows rows) = rows_data (map row_view rows.now)
outcome_data (Tree text) = string text.now
outcome_data (Stats stats) = stats_data stats
outcome_data (Folds pairs) = folds_data pairs.now
outcome_data (Selections selections) = selections_data (map (λ s. s.items) selections.now)
