-- Replies and diagnostics as JSON values (JSON-RPC 2.0, "Response object", "Notification").
use Rattle.std.specs.Prelude.{ℕ, ℤ, negsuc, true, List, [], ◌∷◌, map, codes, Option, Some, None, option_map, unwrap_or, string_bytes}
use Rattle.serde_json.specs.Data.{Data, null, boolean, number, unsigned, string, array, no_items, item, object, no_members, member}
use Rattle.serde_json.specs.View.{items_of}
use Rattle.serde_json.specs.Find.{of_integer}
use Rattle.replies.specs.declared.reply.Loss.{Loss}
use Rattle.replies.specs.declared.reply.Loss.TheVariants.{TooLarge, MalformedChange, Memory}
use Rattle.replies.specs.declared.reply.Log.{Log as Event}
use Rattle.replies.specs.declared.reply.Log.TheVariants as event
use Rattle.replies.specs.declared.reply.Refusal.{Refusal}
use Rattle.replies.specs.declared.reply.Refusal.TheVariants.{ParseError, InvalidRequest, MethodNotFound, InvalidParams, DocumentNotOpen}
use Rattle.replies.specs.declared.reply.Refusal.TheVariants.{DocumentLost, NotInitialized}
use Rattle.definitions.specs.declared.Diagnostic.{Diagnostic}
use Rattle.definitions.specs.declared.Position.{Position}
use Rattle.definitions.specs.declared.Range.{Range}
use Rattle.definitions.specs.declared.Stats.{Stats}
use Rattle.definitions.specs.declared.Unit.{Unit as Encoding}
use Rattle.definitions.specs.declared.Unit.TheVariants.{Utf8, Utf16, Utf32}
use Rattle.definitions.specs.declared.Row.{Row}
use Rattle.replies.specs.declared.reply.Reply.{Reply}
use Rattle.replies.specs.declared.reply.Reply.TheVariants.{Capabilities, Null, Text, Tokens, Tree, Stats as StatsReply, Folds, Selections}
use Rattle.replies.specs.declared.reply.Reply.TheVariants.{Error, Diagnostics, Log}
use Rattle.replies.specs.Ids.{Ident, named, numbered, id_view}

-- what is sent, as plain data: a reply, with the id of its request, the diagnostics of a document, or a log message. Folds are pairs of
-- lines; each selection is its ranges from inner to outer; diagnostics have the version that they are of, if one is given
pub data Answer : Type 0 where
  capabilities_reply : Ident → Encoding → Answer
  null_reply : Ident → Answer
  text_reply : Ident → ℤ → List ℕ → Answer
  tokens_reply : Ident → List (List ℕ × Range) → Answer
  tree_reply : Ident → List ℕ → Answer
  stats_reply : Ident → Stats → Answer
  folds_reply : Ident → List (ℕ × ℕ) → Answer
  selections_reply : Ident → List (List Range) → Answer
  error_reply : Option Ident → Refusal → Answer
  published_diagnostics : List ℕ → Option ℤ → Option (Range × List ℕ) → Answer
  log_message : Event → Answer

-- `row_view row`: a token's row of the code as its name in UTF-8 and its range
abbrev pub row_view : Row → List ℕ × Range
row_view r = (string_bytes r.name.value, r.range)

-- a diagnostic of the code as its range and its message in UTF-8
abbrev pub diagnostic_view : Diagnostic → Range × List ℕ
diagnostic_view d = (d.range, string_bytes d.message)

-- `reply_view reply`: a reply of the code as an `Answer`
abbrev pub reply_view : Reply → Answer
reply_view (Capabilities id unit) = capabilities_reply (id_view id) unit
reply_view (Null id) = null_reply (id_view id)
reply_view (Text id version text) = text_reply (id_view id) version (string_bytes text)
reply_view (Tokens id rows) = tokens_reply (id_view id) (map row_view rows.items)
reply_view (Tree id text) = tree_reply (id_view id) (string_bytes text)
reply_view (StatsReply id s) = stats_reply (id_view id) s
reply_view (Folds id pairs) = folds_reply (id_view id) pairs.items
reply_view (Selections id selections) = selections_reply (id_view id) (map (λ s. s.items) selections.items)
reply_view (Diagnostics uri version d) = published_diagnostics (string_bytes uri) version (option_map diagnostic_view d)
reply_view (Log log) = log_message log
reply_view (Error id refusal) = error_reply (option_map id_view id) refusal

-- `id_data id`: the JSON value of an id
abbrev pub id_data : Ident → Data
id_data (named text) = string text
id_data (numbered z) = number (of_integer z)

-- `maybe_id_data id`: the JSON value of an id, and `null` where there is none
abbrev pub maybe_id_data : Option Ident → Data
maybe_id_data None = null
maybe_id_data (Some id) = id_data id

-- `code_of refusal`: the number of a refusal (JSON-RPC 2.0, "Error object"; LSP 3.17, "ErrorCodes")
abbrev pub code_of : Refusal → ℤ
code_of ParseError = negsuc 32699
code_of InvalidRequest = negsuc 32599
code_of MethodNotFound = negsuc 32600
code_of InvalidParams = negsuc 32601
code_of DocumentNotOpen = negsuc 32601
code_of (DocumentLost loss) = negsuc 32802
code_of NotInitialized = negsuc 32001

-- `loss_text loss`: the text of why a document was lost
abbrev pub loss_text : Loss → List ℕ
loss_text TooLarge = codes "document lost: too large"
loss_text MalformedChange = codes "document lost: malformed change"
loss_text Memory = codes "document lost: no memory"

-- `log_text event`: the text of what is logged
abbrev pub log_text : Event → List ℕ
log_text event.OpenMalformed = codes "didOpen: malformed"
log_text event.ChangeMalformed = codes "didChange: malformed"
log_text event.CloseMalformed = codes "didClose: malformed"
log_text event.ChangeNotOpen = codes "didChange: document not open"
log_text event.CloseNotOpen = codes "didClose: document not open"
log_text event.TooManyDocuments = codes "didOpen: too many documents"
log_text (event.Lost loss) = loss_text loss

-- `message_text refusal`: the text of a refusal
abbrev pub message_text : Refusal → List ℕ
message_text ParseError = codes "parse error"
message_text InvalidRequest = codes "invalid request"
message_text MethodNotFound = codes "method not found"
message_text InvalidParams = codes "invalid params"
message_text DocumentNotOpen = codes "document not open"
message_text (DocumentLost loss) = loss_text loss
message_text NotInitialized = codes "server not initialized"

-- the JSON value that asks for openings and closings of documents, and for incremental changes (LSP 3.17, "TextDocumentSyncOptions")
abbrev pub synchronisation : Data
synchronisation = object
    (member (codes "change") (number (unsigned 2))
    (member (codes "openClose") (boolean true) no_members))

-- `unit_name unit`: the name of a unit (LSP 3.17, "PositionEncodingKind")
abbrev pub unit_name : Encoding → List ℕ
unit_name Utf8 = codes "utf-8"
unit_name Utf16 = codes "utf-16"
unit_name Utf32 = codes "utf-32"

-- what the server can do, with the unit of its positions, as a JSON value (LSP 3.17, "ServerCapabilities")
abbrev pub capability_list : Encoding → Data
capability_list unit = object
    (member (codes "foldingRangeProvider") (boolean true)
    (member (codes "positionEncoding") (string (unit_name unit))
    (member (codes "selectionRangeProvider") (boolean true)
    (member (codes "textDocumentSync") synchronisation no_members))))

-- the result of `initialize`: the `capability_list` under its key (LSP 3.17, "InitializeResult")
abbrev pub capabilities : Encoding → Data
capabilities unit = object (member (codes "capabilities") (capability_list unit) no_members)

-- the JSON value of a document's text and version
abbrev pub document_data : ℤ → List ℕ → Data
document_data version text = object
    (member (codes "text") (string text)
    (member (codes "version") (number (of_integer version)) no_members))

-- `row_data row`: the JSON value of a token's row: its name, and the lines and characters of its start and end
abbrev pub row_data : List ℕ × Range → Data
row_data r = array
    (item (string r.0)
    (item (number (unsigned r.1.start.line))
    (item (number (unsigned r.1.start.character))
    (item (number (unsigned r.1.end.line))
    (item (number (unsigned r.1.end.character)) no_items)))))

-- the JSON value of all rows
abbrev pub rows_data : List (List ℕ × Range) → Data
rows_data rows = array (items_of (map row_data rows))

-- `stats_data stats`: the JSON value of a document's counts
abbrev pub stats_data : Stats → Data
stats_data s = object
    (member (codes "branches") (number (unsigned s.branches))
    (member (codes "built") (number (unsigned s.built))
    (member (codes "edit") (number (unsigned s.edit))
    (member (codes "nodes") (number (unsigned s.nodes))
    (member (codes "scanned") (number (unsigned s.scanned))
    (member (codes "tokens") (number (unsigned s.tokens)) no_members))))))

-- `fold_data pair`: the JSON value of the first and last line of a fold (LSP 3.17, "FoldingRange")
abbrev pub fold_data : ℕ × ℕ → Data
fold_data p = object
    (member (codes "endLine") (number (unsigned p.1))
    (member (codes "startLine") (number (unsigned p.0)) no_members))

-- the JSON value of all folds
abbrev pub folds_data : List (ℕ × ℕ) → Data
folds_data pairs = array (items_of (map fold_data pairs))

-- the JSON value of a position (LSP 3.17, "Position")
abbrev pub position_data : Position → Data
position_data p = object
    (member (codes "character") (number (unsigned p.character))
    (member (codes "line") (number (unsigned p.line)) no_members))

-- the JSON value of a range (LSP 3.17, "Range")
abbrev pub range_data : Range → Data
range_data r = object
    (member (codes "end") (position_data r.end)
    (member (codes "start") (position_data r.start) no_members))

-- `with_parent range parent`: the JSON value of a range with its parent, if it has one
abbrev pub with_parent : Data → Option Data → Data
with_parent range None = object (member (codes "range") range no_members)
with_parent range (Some parent) = object (member (codes "parent") parent (member (codes "range") range no_members))

-- `nested ranges`: ranges from inner to outer as one JSON value, each with the next one as its parent; none where there are no ranges
abbrev pub nested : List Range → Option Data
nested [] = None
nested (r ∷ rest) = Some (with_parent (range_data r) (nested rest))

-- the JSON value of a selection: its ranges `nested`, or `null` (LSP 3.17, "SelectionRange")
abbrev pub selection_data : List Range → Data
selection_data ranges = unwrap_or (nested ranges) null

-- the JSON value of all selections, in order
abbrev pub selections_data : List (List Range) → Data
selections_data selections = array (items_of (map selection_data selections))

-- the JSON value of a diagnostic (LSP 3.17, "Diagnostic")
abbrev pub diagnostic_data : Range × List ℕ → Data
diagnostic_data d = object
    (member (codes "message") (string d.1)
    (member (codes "range") (range_data d.0)
    (member (codes "severity") (number (unsigned 1))
    (member (codes "source") (string (codes "lrls")) no_members))))

-- `diagnostic_list d`: the JSON value of a list with this diagnostic, or with none
abbrev pub diagnostic_list : Option (Range × List ℕ) → Data
diagnostic_list None = array no_items
diagnostic_list (Some d) = array (item (diagnostic_data d) no_items)

-- `published uri version diagnostics`: the JSON value of what is published under a URI, with a version or without (LSP 3.17,
-- "PublishDiagnosticsParams")
abbrev pub published : List ℕ → Option ℤ → Data → Data
published uri None diagnostics = object
    (member (codes "diagnostics") diagnostics
    (member (codes "uri") (string uri) no_members))
published uri (Some version) diagnostics = object
    (member (codes "diagnostics") diagnostics
    (member (codes "uri") (string uri)
    (member (codes "version") (number (of_integer version)) no_members)))

-- `log_data event`: the JSON value of a log message (LSP 3.17, "LogMessageParams")
abbrev pub log_data : Event → Data
log_data log = object
    (member (codes "message") (string (log_text log))
    (member (codes "type") (number (unsigned 1)) no_members))

-- the JSON value of a notification (JSON-RPC 2.0, "Notification")
abbrev pub notice_data : List ℕ → Data → Data
notice_data method parameters = object
    (member (codes "jsonrpc") (string (codes "2.0"))
    (member (codes "method") (string method)
    (member (codes "params") parameters no_members)))

-- `result_data id result`: the JSON value of a reply with a result (JSON-RPC 2.0, "Response object")
abbrev pub result_data : Data → Data → Data
result_data id outcome = object
    (member (codes "id") id
    (member (codes "jsonrpc") (string (codes "2.0"))
    (member (codes "result") outcome no_members)))

-- the JSON value of an error (JSON-RPC 2.0, "Error object")
abbrev pub error_object : ℤ → List ℕ → Data
error_object code text = object
    (member (codes "code") (number (of_integer code))
    (member (codes "message") (string text) no_members))

-- the JSON value of a reply with an error (JSON-RPC 2.0, "Response object")
abbrev pub error_data : Data → ℤ → List ℕ → Data
error_data id code text = object
    (member (codes "error") (error_object code text)
    (member (codes "id") id
    (member (codes "jsonrpc") (string (codes "2.0")) no_members)))

-- `reply_data answer`: the JSON value of what is sent, with the keys in byte order
abbrev pub reply_data : Answer → Data
reply_data (capabilities_reply id unit) = result_data (id_data id) (capabilities unit)
reply_data (null_reply id) = result_data (id_data id) null
reply_data (text_reply id version text) = result_data (id_data id) (document_data version text)
reply_data (tokens_reply id rows) = result_data (id_data id) (rows_data rows)
reply_data (tree_reply id text) = result_data (id_data id) (string text)
reply_data (stats_reply id s) = result_data (id_data id) (stats_data s)
reply_data (folds_reply id pairs) = result_data (id_data id) (folds_data pairs)
reply_data (selections_reply id selections) = result_data (id_data id) (selections_data selections)
reply_data (published_diagnostics uri version d) =
    notice_data (codes "textDocument/publishDiagnostics") (published uri version (diagnostic_list d))
reply_data (log_message log) = notice_data (codes "window/logMessage") (log_data log)
reply_data (error_reply id refusal) = error_data (maybe_id_data id) (code_of refusal) (message_text refusal)
