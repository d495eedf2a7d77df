-- What a content is read as (JSON-RPC 2.0, "Request object"; LSP 3.17, "Base Protocol").
use Rattle.std.specs.Prelude.{◌≡◌, ℕ, ℤ, ◌&&◌, ◌||◌, Bool, true, false, not, if◌then◌else◌, List, [], ◌∷◌, codes, Option, Some, None}
use Rattle.std.specs.Prelude.{Result, IfSome, option_map, option_and_then, unwrap_or, is_some, is_none}
use Rattle.std.specs.Option.{option_or}
use Rattle.std.specs.Str.{is_utf8, bytes_eq}
use Rattle.serde_json.specs.Data.{Data, null, string, Items, no_items, item}
use Rattle.serde_json.specs.Find.{get, as_object, as_array, as_str}
use Rattle.serde_json.specs.Read.{read}
use Rattle.definitions.specs.declared.Position.{Position}
use Rattle.definitions.specs.declared.Range.{Range}
use Rattle.definitions.specs.declared.Unit.{Unit as Encoding}
use Rattle.definitions.specs.declared.Unit.TheVariants.{Utf8, Utf16, Utf32}
use Rattle.rpc.specs.declared.message.Message.{Message}
use Rattle.rpc.specs.declared.message.RpcFault.{RpcFault}
use Rattle.rpc.specs.Fields.{integer_of, text_at, integer_at, natural_at, has_key}
use Rattle.replies.specs.Ids.{Ident, named, numbered}
use Rattle.rpc.specs.Messages.{Question, its_text, its_tokens, its_tree, its_folds, its_selections, initialize}
use Rattle.rpc.specs.Messages.{shutdown, about, stats, TextChange, unfit_open, unfit_change, unfit_close, Notification, initialized, exit}
use Rattle.rpc.specs.Messages.{open_text, change_text, close, malformed, request, notification, ignored, invalid, unknown, params, Received}
use Rattle.rpc.specs.Messages.{unread, refused, accepted, received_of}

-- ---- parts of a value

-- `ident_of d`: the id that a JSON value is: a text, or a whole number that fits
abbrev pub ident_of : Data → Option Ident
ident_of (string s) = Some (named s)
ident_of d = option_map numbered (integer_of d)

-- the id under `id`, where it can be read
abbrev pub id_at : Data → Option Ident
id_at d = option_and_then ident_of (get (codes "id") d)

-- `is_text text s`: whether `s` is there and is this text
abbrev pub is_text : List ℕ → Option (List ℕ) → Bool
is_text text None = false
is_text text (Some s) = bytes_eq s text

-- `textDocument.uri` of the parameters, where it is a text
abbrev pub uri_at : Data → Option (List ℕ)
uri_at d = option_and_then (text_at (codes "uri")) (get (codes "textDocument") d)

-- `textDocument.version` of the parameters, where it is a whole number that fits
abbrev pub version_at : Data → Option ℤ
version_at d = option_and_then (integer_at (codes "version")) (get (codes "textDocument") d)

-- `textDocument.text` of the parameters, where it is a text
abbrev pub document_text : Data → Option (List ℕ)
document_text d = option_and_then (text_at (codes "text")) (get (codes "textDocument") d)

-- `place line character`: the position of a line and a character, where both are there
abbrev pub place : Option ℕ → Option ℕ → Option Position
place (Some line) (Some character) = Some (record { line = line; character = character })
place _ _ = None

-- the position that a JSON value is: its `line` and `character` are whole numbers from 0 (LSP 3.17, "Position")
abbrev pub position_of : Data → Option Position
position_of d = place (natural_at (codes "line") d) (natural_at (codes "character") d)

-- the position under a key
abbrev pub position_at : List ℕ → Data → Option Position
position_at key d = option_and_then position_of (get key d)

-- `first_and x xs`: one thing and others as one list, where all are there
abbrev pub first_and : {X : Type 0} → Option X → Option (List X) → Option (List X)
first_and (Some x) (Some xs) = Some (x ∷ xs)
first_and _ _ = None

-- `positions_of ds`: the positions of a list, where each item is one
abbrev pub positions_of : Items → Option (List Position)
positions_of no_items = Some []
positions_of (item d ds) = first_and (position_of d) (positions_of ds)

-- the positions under `positions`, where each item is one
abbrev pub positions_at : Data → Option (List Position)
positions_at d = option_and_then positions_of (option_and_then as_array (get (codes "positions") d))

-- `span start end`: the range of two positions, where both are there
abbrev pub span : Option Position → Option Position → Option Range
span (Some start) (Some end) = Some (record { start = start; end = end })
span _ _ = None

-- the range that a JSON value is: its `start` and `end` are positions (LSP 3.17, "Range")
abbrev pub range_of : Data → Option Range
range_of d = span (position_at (codes "start") d) (position_at (codes "end") d)

-- `maybe_range d`: the range of a `range` member that is one, or that there is no such member; none where the member is no range
abbrev pub maybe_range : Option Data → Option (Option Range)
maybe_range None = Some None
maybe_range (Some d) = option_map (λ (r : Range). Some r) (range_of d)

-- `change_with text range`: the change of a text and perhaps a range, where they could be read
abbrev pub change_with : Option (List ℕ) → Option (Option Range) → Option TextChange
change_with (Some text) (Some range) = Some (record { range = range; text = text })
change_with _ _ = None

-- the change that a JSON value is: a text and perhaps a range (LSP 3.17, "TextDocumentContentChangeEvent")
abbrev pub change_of : Data → Option TextChange
change_of d = change_with (text_at (codes "text") d) (maybe_range (get (codes "range") d))

-- `changes_of ds`: the changes of a list, where each item is one
abbrev pub changes_of : Items → Option (List TextChange)
changes_of no_items = Some []
changes_of (item d ds) = first_and (change_of d) (changes_of ds)

-- the changes under `contentChanges`, where each item is one
abbrev pub changes_at : Data → Option (List TextChange)
changes_at d = option_and_then changes_of (option_and_then as_array (get (codes "contentChanges") d))

-- ---- the unit of positions

-- the unit of the name `utf-8`, `utf-16` or `utf-32` (LSP 3.17, "PositionEncodingKind")
abbrev pub unit_named : List ℕ → Option Encoding
unit_named s =
    if bytes_eq s (codes "utf-8") then Some Utf8 else (
    if bytes_eq s (codes "utf-16") then Some Utf16 else (
    if bytes_eq s (codes "utf-32") then Some Utf32 else None))

-- the unit that a JSON value names
abbrev pub unit_of : Data → Option Encoding
unit_of d = option_and_then unit_named (as_str d)

-- `first_unit ds`: the first unit that an item of a list names
abbrev pub first_unit : Items → Option Encoding
first_unit no_items = None
first_unit (item d ds) = option_or (unit_of d) (first_unit ds)

-- `capabilities.general.positionEncodings` of the parameters (LSP 3.17, "General client capabilities")
abbrev pub encodings_at : Data → Option Data
encodings_at d =
    option_and_then (get (codes "positionEncodings")) (option_and_then (get (codes "general")) (get (codes "capabilities") d))

-- the unit that positions are to count: the first one that `encodings_at` names, and UTF-16 where it names none
abbrev pub unit_at : Data → Encoding
unit_at d = unwrap_or (option_and_then first_unit (option_and_then as_array (encodings_at d))) Utf16

-- ---- requests (the last argument is the parameters)

-- what `initialize` is read as: a request with the unit that its parameters choose, which have to be an object
abbrev pub initialize_request : Ident → Data → Received
initialize_request id d = if is_some (as_object d) then accepted (request id (initialize (unit_at d))) else refused (params id true)

-- `document_request question id uri`: what a question is read as: a request about the document of the URI, or, with none, parameters that
-- don't fit
abbrev pub document_request : Question → Ident → Option (List ℕ) → Received
document_request question id (Some uri) = accepted (request id (about uri question))
document_request question id None = refused (params id false)

-- `stats_request id uri`: what `lr/stats` is read as: a request for the counts of the document of the URI, or, with none, parameters that
-- don't fit
abbrev pub stats_request : Ident → Option (List ℕ) → Received
stats_request id (Some uri) = accepted (request id (stats uri))
stats_request id None = refused (params id false)

-- `selections_request id uri positions`: what `textDocument/selectionRange` is read as: a request about the document of the URI and these
-- positions, or, where one is missing, parameters that don't fit
abbrev pub selections_request : Ident → Option (List ℕ) → Option (List Position) → Received
selections_request id (Some uri) (Some positions) = accepted (request id (about uri (its_selections positions)))
selections_request id _ _ = refused (params id false)

-- what a request of a method is read as; one of an unknown method is refused
abbrev pub request_of : List ℕ → Ident → Data → Received
request_of method id d =
    if bytes_eq method (codes "initialize") then initialize_request id d else (
    if bytes_eq method (codes "shutdown") then accepted (request id shutdown) else (
    if bytes_eq method (codes "textDocument/foldingRange") then document_request its_folds id (uri_at d) else (
    if bytes_eq method (codes "textDocument/selectionRange") then selections_request id (uri_at d) (positions_at d) else (
    if bytes_eq method (codes "lr/text") then document_request its_text id (uri_at d) else (
    if bytes_eq method (codes "lr/tokens") then document_request its_tokens id (uri_at d) else (
    if bytes_eq method (codes "lr/tree") then document_request its_tree id (uri_at d) else (
    if bytes_eq method (codes "lr/stats") then stats_request id (uri_at d) else
    refused (unknown id))))))))

-- ---- notifications (the last argument is the parameters)

-- `open_notification uri version text`: what `textDocument/didOpen` says of these, or, where one is missing, that they don't fit
abbrev pub open_notification : Option (List ℕ) → Option ℤ → Option (List ℕ) → Notification
open_notification (Some uri) (Some version) (Some text) = open_text uri version text
open_notification _ _ _ = malformed unfit_open

-- what `textDocument/didOpen` with the parameters `d` says, as `open_notification`
abbrev pub read_open : Data → Notification
read_open d = open_notification (uri_at d) (version_at d) (document_text d)

-- `change_notification uri version changes`: what `textDocument/didChange` says of these, or, where one is missing, that they don't fit
abbrev pub change_notification : Option (List ℕ) → Option ℤ → Option (List TextChange) → Notification
change_notification (Some uri) (Some version) (Some changes) = change_text uri version changes
change_notification uri _ _ = malformed (unfit_change uri)

-- what `textDocument/didChange` with the parameters `d` says, as `change_notification`
abbrev pub read_change : Data → Notification
read_change d = change_notification (uri_at d) (version_at d) (changes_at d)

-- `close_notification uri`: what `textDocument/didClose` says of the URI, or, where it is missing, that it doesn't fit
abbrev pub close_notification : Option (List ℕ) → Notification
close_notification (Some uri) = close uri
close_notification None = malformed unfit_close

-- what `textDocument/didClose` with the parameters `d` says, as `close_notification`
abbrev pub read_close : Data → Notification
read_close d = close_notification (uri_at d)

-- what a notification of a method is read as; one of an unknown method is ignored
abbrev pub notification_of : List ℕ → Data → Received
notification_of method d =
    if bytes_eq method (codes "initialized") then accepted (notification initialized) else (
    if bytes_eq method (codes "exit") then accepted (notification exit) else (
    if bytes_eq method (codes "textDocument/didOpen") then accepted (notification (read_open d)) else (
    if bytes_eq method (codes "textDocument/didChange") then accepted (notification (read_change d)) else (
    if bytes_eq method (codes "textDocument/didClose") then accepted (notification (read_close d)) else
    accepted ignored))))

-- ---- messages

-- whether there is no method, and there is a result or an error (JSON-RPC 2.0, "Response object")
abbrev pub is_reply : Data → Bool
is_reply d = not (has_key (codes "method") d) && (has_key (codes "result") d || has_key (codes "error") d)

-- whether the version isn't 2.0, or there is no method that is a text, or there is an id that can't be read
abbrev pub is_invalid : Data → Bool
is_invalid d =
    not (is_text (codes "2.0") (text_at (codes "jsonrpc") d))
    || is_none (text_at (codes "method") d)
    || (has_key (codes "id") d && is_none (id_at d))

-- the parameters, or `null` where there are none
abbrev pub params_at : Data → Data
params_at d = unwrap_or (get (codes "params") d) null

-- `of_method method id d`: what is read of a method: with an id a request, without one a notification; with no method it is invalid
abbrev pub of_method : Option (List ℕ) → Option Ident → Data → Received
of_method (Some method) (Some id) d = request_of method id d
of_method (Some method) None d = notification_of method d
of_method None id d = refused (invalid id)

-- what a JSON value is read as, by the tests in their order: no object; a reply; no valid message; then by its method (JSON-RPC 2.0)
abbrev pub message_of : Data → Received
message_of d =
    -- the value isn't an object
    if is_none (as_object d) then refused (invalid None) else (
    -- it is a reply: there is no `method`, and there is `result` or `error`
    if is_reply d then accepted ignored else (
    -- the version isn't 2.0, there is no method, or the id can't be read
    if is_invalid d then refused (invalid (id_at d)) else
    -- with an id it is a request, without one a notification
    of_method (text_at (codes "method") d) (id_at d) (params_at d)))

-- the JSON value that a content is; none where it isn't UTF-8, is no JSON, or is nested too deep
abbrev pub value_of : List ℕ → Option Data
value_of content = if is_utf8 content then read content else None

-- `received_as d`: what is read of a JSON value, as `message_of`; nothing that can be read where there is none
abbrev pub received_as : Option Data → Received
received_as None = unread
received_as (Some d) = message_of d

-- what a content is read as
abbrev pub received_in : List ℕ → Received
received_in content = received_as (value_of content)

-- the content is read as this: it is `received_in content`
abbrev pub Receives : List ℕ → Received → Type 0
Receives content received = received ≡ received_in content

-- what a function returned is read as this, where memory was not refused
abbrev pub Gives : Result Message RpcFault → Received → Type 0
Gives result received = IfSome (received_of result) (λ h. h ≡ received)
