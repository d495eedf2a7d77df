-- Messages as plain data, without where their texts lie in memory (JSON-RPC 2.0; LSP 3.17). A text is its UTF-8 bytes.
use Rattle.std.specs.Prelude.{ℤ, ℕ, Bool, List, map, Option, Some, None, Result, Ok, Err, option_map, string_bytes}
use Rattle.definitions.specs.declared.Position.{Position}
use Rattle.definitions.specs.declared.Range.{Range}
use Rattle.definitions.specs.declared.Unit.{Unit as Encoding}
use Rattle.replies.specs.Ids.{Ident, id_view}
use Rattle.rpc.specs.declared.message.Change.{Change}
use Rattle.rpc.specs.declared.message.Call.{Call}
use Rattle.rpc.specs.declared.message.Call.TheVariants as call
use Rattle.rpc.specs.declared.message.Malformed.{Malformed}
use Rattle.rpc.specs.declared.message.Malformed.TheVariants as form
use Rattle.rpc.specs.declared.message.Note.{Note}
use Rattle.rpc.specs.declared.message.Note.TheVariants as note
use Rattle.rpc.specs.declared.message.Message.{Message}
use Rattle.rpc.specs.declared.message.Message.TheVariants as message
use Rattle.rpc.specs.declared.message.RpcFault.{RpcFault}
use Rattle.rpc.specs.declared.message.RpcFault.TheVariants as fault

-- what a request asks about a document: its text, its tokens, its tree, its folds, or selections at some positions
pub data Question : Type 0 where
  its_text : Question
  its_tokens : Question
  its_tree : Question
  its_folds : Question
  its_selections : List Position → Question

-- what a request asks: to initialize, with the unit that positions are to count; to shut down; a question about a document, or its counts,
-- with the document's URI
pub data Request : Type 0 where
  initialize : Encoding → Request
  shutdown : Request
  about : List ℕ → Question → Request
  stats : List ℕ → Request

-- a change: a text for a range, or for the whole
pub record TextChange : Type 0 where
  pub range : Option Range
  pub text : List ℕ

-- a notification whose parameters don't fit; of a change with the URI, where that is a text
pub data Unfit : Type 0 where
  unfit_open : Unfit
  unfit_change : Option (List ℕ) → Unfit
  unfit_close : Unfit

-- what a notification carries; a document's URI comes first, then its version
pub data Notification : Type 0 where
  initialized : Notification
  exit : Notification
  open_text : List ℕ → ℤ → List ℕ → Notification
  change_text : List ℕ → ℤ → List TextChange → Notification
  close : List ℕ → Notification
  malformed : Unfit → Notification

-- a message: a request, a notification, or one that is ignored
pub data ReceivedMessage : Type 0 where
  request : Ident → Request → ReceivedMessage
  notification : Notification → ReceivedMessage
  ignored : ReceivedMessage

-- why a JSON value is no message: invalid, with its id where that can be read; an unknown method; or parameters that don't fit, and whether
-- they are those of `initialize`
pub data Refused : Type 0 where
  invalid : Option Ident → Refused
  unknown : Ident → Refused
  params : Ident → Bool → Refused

-- what a content is read as: nothing that can be read, a refused value, or a message
pub data Received : Type 0 where
  unread : Received
  refused : Refused → Received
  accepted : ReceivedMessage → Received

-- `call_view call`: a call of the code as a `Request`
abbrev pub call_view : Call → Request
call_view (call.Initialize unit) = initialize unit
call_view call.Shutdown = shutdown
call_view (call.Text uri) = about (string_bytes uri) its_text
call_view (call.Tokens uri) = about (string_bytes uri) its_tokens
call_view (call.Tree uri) = about (string_bytes uri) its_tree
call_view (call.Stats uri) = stats (string_bytes uri)
call_view (call.FoldingRange uri) = about (string_bytes uri) its_folds
call_view (call.SelectionRange uri positions) = about (string_bytes uri) (its_selections positions.items)

-- `change_view change`: a change of the code as a `TextChange`
abbrev pub change_view : Change → TextChange
change_view c = record { range = c.range; text = string_bytes c.text }

-- `malformed_view m`: an unfit notification of the code as an `Unfit`
abbrev pub malformed_view : Malformed → Unfit
malformed_view form.DidOpen = unfit_open
malformed_view (form.DidChange uri) = unfit_change (option_map string_bytes uri)
malformed_view form.DidClose = unfit_close

-- `note_view note`: a notification of the code as a `Notification`
abbrev pub note_view : Note → Notification
note_view note.Initialized = initialized
note_view note.Exit = exit
note_view (note.DidOpen uri version text) = open_text (string_bytes uri) version (string_bytes text)
note_view (note.DidChange uri version changes) = change_text (string_bytes uri) version (map change_view changes.items)
note_view (note.DidClose uri) = close (string_bytes uri)
note_view (note.Malformed m) = malformed (malformed_view m)

-- `message_view message`: a message of the code as a `ReceivedMessage`
abbrev pub message_view : Message → ReceivedMessage
message_view (message.Request id c) = request (id_view id) (call_view c)
message_view (message.Notice n) = notification (note_view n)
message_view message.Ignored = ignored

-- `fault_view fault`: a fault of the code as a `Received`; none where it is memory
abbrev pub fault_view : RpcFault → Option Received
fault_view fault.Parse = Some unread
fault_view (fault.Invalid id) = Some (refused (invalid (option_map id_view id)))
fault_view (fault.Unknown id) = Some (refused (unknown (id_view id)))
fault_view (fault.Params id first) = Some (refused (params (id_view id) first))
fault_view fault.Memory = None

-- `received_of result`: a result of the code as a `Received`; none where memory was refused
abbrev pub received_of : Result Message RpcFault → Option Received
received_of (Ok m) = Some (accepted (message_view m))
received_of (Err e) = fault_view e
