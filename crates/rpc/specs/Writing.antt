-- How messages to a server are written as JSON values (JSON-RPC 2.0, "Request object", "Notification"; LSP 3.17, "Base Protocol").
use Rattle.std.specs.Prelude.{◌≡◌, ℕ, ℤ, List, map, All, codes, Option, Some, None}
use Rattle.serde_json.specs.Data.{Data, null, number, string, array, no_items, item, object, no_members, member}
use Rattle.serde_json.specs.Find.{of_integer}
use Rattle.serde_json.specs.View.{items_of}
use Rattle.definitions.specs.declared.Position.{Position}
use Rattle.definitions.specs.declared.Range.{Range}
use Rattle.definitions.specs.declared.Unit.{Unit as Encoding}
use Rattle.replies.specs.Ids.{Ident, named, numbered}
use Rattle.replies.specs.Replies.{id_data, unit_name, position_data, range_data}
use Rattle.rpc.specs.Fields.{fits_i32, fits_u31}
use Rattle.rpc.specs.Messages.{Question, its_text, its_tokens, its_tree, its_folds, its_selections, Request, initialize, shutdown}
use Rattle.rpc.specs.Messages.{about, stats}
use Rattle.rpc.specs.Messages.{TextChange, Notification, initialized, exit, open_text, change_text, close, malformed}

-- ---- messages of a method

-- `telling method params`: the JSON value of a notification of a method, with parameters or without
abbrev pub telling : List ℕ → Option Data → Data
telling method None = object
    (member (codes "jsonrpc") (string (codes "2.0"))
    (member (codes "method") (string method) no_members))
telling method (Some params) = object
    (member (codes "jsonrpc") (string (codes "2.0"))
    (member (codes "method") (string method)
    (member (codes "params") params no_members)))

-- `asking id method params`: the JSON value of a request of a method, with parameters or without
abbrev pub asking : Ident → List ℕ → Option Data → Data
asking id method None = object
    (member (codes "id") (id_data id)
    (member (codes "jsonrpc") (string (codes "2.0"))
    (member (codes "method") (string method) no_members)))
asking id method (Some params) = object
    (member (codes "id") (id_data id)
    (member (codes "jsonrpc") (string (codes "2.0"))
    (member (codes "method") (string method)
    (member (codes "params") params no_members))))

-- ---- requests

-- the parameters that name a document (LSP 3.17, "TextDocumentIdentifier")
abbrev pub of_document : List ℕ → Data
of_document uri = object (member (codes "textDocument") (object (member (codes "uri") (string uri) no_members)) no_members)

-- the parameters of `textDocument/selectionRange` (LSP 3.17, "SelectionRangeParams")
abbrev pub of_positions : List ℕ → List Position → Data
of_positions uri positions = object
    (member (codes "positions") (array (items_of (map position_data positions)))
    (member (codes "textDocument") (object (member (codes "uri") (string uri) no_members)) no_members))

-- the parameters of an `initialize` whose client can count this unit alone (LSP 3.17, "InitializeParams")
abbrev pub of_client : Encoding → Data
of_client unit = object
    (member (codes "capabilities")
    (object (member (codes "general")
    (object (member (codes "positionEncodings") (array (item (string (unit_name unit)) no_items)) no_members)) no_members))
    (member (codes "processId") null
    (member (codes "rootUri") null no_members)))

-- `question_data id uri question`: the JSON value of a request that asks this about a document
abbrev pub question_data : Ident → List ℕ → Question → Data
question_data id uri its_text = asking id (codes "lr/text") (Some (of_document uri))
question_data id uri its_tokens = asking id (codes "lr/tokens") (Some (of_document uri))
question_data id uri its_tree = asking id (codes "lr/tree") (Some (of_document uri))
question_data id uri its_folds = asking id (codes "textDocument/foldingRange") (Some (of_document uri))
question_data id uri (its_selections positions) = asking id (codes "textDocument/selectionRange") (Some (of_positions uri positions))

-- `request_data id request`: the JSON value of a request
abbrev pub request_data : Ident → Request → Data
request_data id (initialize unit) = asking id (codes "initialize") (Some (of_client unit))
request_data id shutdown = asking id (codes "shutdown") None
request_data id (about uri question) = question_data id uri question
request_data id (stats uri) = asking id (codes "lr/stats") (Some (of_document uri))

-- ---- notifications

-- the parameters of `textDocument/didOpen`, with what the client calls the language (LSP 3.17, "DidOpenTextDocumentParams")
abbrev pub of_opening : List ℕ → List ℕ → ℤ → List ℕ → Data
of_opening language uri version text = object
    (member (codes "textDocument")
    (object
    (member (codes "languageId") (string language)
    (member (codes "text") (string text)
    (member (codes "uri") (string uri)
    (member (codes "version") (number (of_integer version)) no_members))))) no_members)

-- `with_range range text`: the JSON value of a change of a range, or of the whole (LSP 3.17, "TextDocumentContentChangeEvent")
abbrev pub with_range : Option Range → List ℕ → Data
with_range None text = object (member (codes "text") (string text) no_members)
with_range (Some range) text = object (member (codes "range") (range_data range) (member (codes "text") (string text) no_members))

-- the JSON value of a change
abbrev pub change_data : TextChange → Data
change_data c = with_range c.range c.text

-- the parameters of `textDocument/didChange` (LSP 3.17, "DidChangeTextDocumentParams")
abbrev pub of_changes : List ℕ → ℤ → List TextChange → Data
of_changes uri version changes = object
    (member (codes "contentChanges") (array (items_of (map change_data changes)))
    (member (codes "textDocument")
    (object (member (codes "uri") (string uri) (member (codes "version") (number (of_integer version)) no_members))) no_members))

-- `notification_data language notification`: the JSON value of a notification; none of one whose parameters don't fit
abbrev pub notification_data : List ℕ → Notification → Option Data
notification_data language initialized = Some (telling (codes "initialized") (Some (object no_members)))
notification_data language exit = Some (telling (codes "exit") None)
notification_data language (open_text uri version text) =
    Some (telling (codes "textDocument/didOpen") (Some (of_opening language uri version text)))
notification_data language (change_text uri version changes) =
    Some (telling (codes "textDocument/didChange") (Some (of_changes uri version changes)))
notification_data language (close uri) = Some (telling (codes "textDocument/didClose") (Some (of_document uri)))
notification_data language (malformed unfit) = None

-- ---- the numbers that a message may have

-- an id that is a number has 32 bits (`fits_i32`)
abbrev pub IdFits : Ident → Type 0
IdFits (named text) = Unit {0}
IdFits (numbered z) = fits_i32 z ≡ Some z

-- line and character are below 2^31 (`fits_u31`)
abbrev pub PositionFits : Position → Type 0
PositionFits p = (fits_u31 p.line ≡ Some p.line) × (fits_u31 p.character ≡ Some p.character)

-- the positions of a range fit, where there is one
abbrev pub RangeFits : Option Range → Type 0
RangeFits None = Unit {0}
RangeFits (Some r) = PositionFits r.start × PositionFits r.end

-- the positions of what is asked about a document fit
abbrev pub QuestionFits : Question → Type 0
QuestionFits (its_selections positions) = All PositionFits positions
QuestionFits _ = Unit {0}

-- the positions in a request fit
abbrev pub RequestFits : Request → Type 0
RequestFits (about uri question) = QuestionFits question
RequestFits _ = Unit {0}

-- the version in a notification has 32 bits, and the positions of its changes fit
abbrev pub NotificationFits : Notification → Type 0
NotificationFits (open_text uri version text) = fits_i32 version ≡ Some version
NotificationFits (change_text uri version changes) = (fits_i32 version ≡ Some version) × All (λ c. RangeFits c.range) changes
NotificationFits _ = Unit {0}
