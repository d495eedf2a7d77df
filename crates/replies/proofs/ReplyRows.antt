-- What is sent, as JSON texts: a row for each form of an answer, and for each text and code in it (JSON-RPC 2.0; LSP 3.17).
use Rattle.std.specs.Prelude.{◌≡◌, ℕ, pos, negsuc, List, [], ◌∷◌, codes, refl, Some, None}
use Rattle.std.specs.Fmt.{digits}
use Rattle.definitions.specs.declared.Range.{Range}
use Rattle.definitions.specs.declared.Unit.TheVariants.{Utf8, Utf16, Utf32}
use Rattle.json.specs.Print.{escape_byte}
use Rattle.serde_json.specs.Written.{compact_text}
use Rattle.replies.specs.Ids.{Ident, named, numbered}
use Rattle.replies.specs.declared.reply.Log.TheVariants as event
use Rattle.replies.specs.declared.reply.Loss.TheVariants as loss
use Rattle.replies.specs.declared.reply.Refusal.TheVariants as refusal
use Rattle.replies.specs.Replies.{Answer, capabilities_reply, null_reply, text_reply, tokens_reply, tree_reply, stats_reply, folds_reply}
use Rattle.replies.specs.Replies.{selections_reply, error_reply, published_diagnostics, log_message, reply_data}

-- the JSON text of an answer
abbrev sent : Answer → List ℕ
sent answer = compact_text (reply_data answer)

abbrev one : Ident
one = numbered (pos 1)

-- `at l c m d`: the range from `l:c` to `m:d`
abbrev at : ℕ → ℕ → ℕ → ℕ → Range
at l c m d = record { start = record { line = l; character = c }; end = record { line = m; character = d } }

-- `initialize`, with each unit
capabilities_8 : sent (capabilities_reply one Utf8)
    ≡ codes "{\"id\":1,\"jsonrpc\":\"2.0\",\"result\":{\"capabilities\":{\"foldingRangeProvider\":true,\"positionEncoding\":\"utf-8\",\"selectionRangeProvider\":true,\"textDocumentSync\":{\"change\":2,\"openClose\":true}}}}"
unfolding digits escape_byte
capabilities_8 = refl

capabilities_16 : sent (capabilities_reply one Utf16)
    ≡ codes "{\"id\":1,\"jsonrpc\":\"2.0\",\"result\":{\"capabilities\":{\"foldingRangeProvider\":true,\"positionEncoding\":\"utf-16\",\"selectionRangeProvider\":true,\"textDocumentSync\":{\"change\":2,\"openClose\":true}}}}"
unfolding digits escape_byte
capabilities_16 = refl

capabilities_32 : sent (capabilities_reply one Utf32)
    ≡ codes "{\"id\":1,\"jsonrpc\":\"2.0\",\"result\":{\"capabilities\":{\"foldingRangeProvider\":true,\"positionEncoding\":\"utf-32\",\"selectionRangeProvider\":true,\"textDocumentSync\":{\"change\":2,\"openClose\":true}}}}"
unfolding digits escape_byte
capabilities_32 = refl

-- `shutdown`, and a text that has no tree
nothing : sent (null_reply one) ≡ codes "{\"id\":1,\"jsonrpc\":\"2.0\",\"result\":null}"
unfolding digits escape_byte
nothing = refl

-- a request whose id is a text
named_request : sent (null_reply (named (codes "a"))) ≡ codes "{\"id\":\"a\",\"jsonrpc\":\"2.0\",\"result\":null}"
unfolding digits escape_byte
named_request = refl

-- the id -1
negative_id : sent (null_reply (numbered (negsuc 0))) ≡ codes "{\"id\":-1,\"jsonrpc\":\"2.0\",\"result\":null}"
unfolding digits escape_byte
negative_id = refl

-- `lr/text`
text : sent (text_reply one (pos 2) (codes "2")) ≡ codes "{\"id\":1,\"jsonrpc\":\"2.0\",\"result\":{\"text\":\"2\",\"version\":2}}"
unfolding digits escape_byte
text = refl

-- a text with a quote and a line feed, of version -5
quoted_text : sent (text_reply one (negsuc 4) (codes "\"\n")) ≡ codes "{\"id\":1,\"jsonrpc\":\"2.0\",\"result\":{\"text\":\"\\\"\\n\",\"version\":-5}}"
unfolding digits escape_byte
quoted_text = refl

-- `lr/tokens`
tokens : sent (tokens_reply one ((codes "invalid", at 0 0 0 2) ∷ (codes "NUM", at 0 2 0 3) ∷ [])) ≡ codes "{\"id\":1,\"jsonrpc\":\"2.0\",\"result\":[[\"invalid\",0,0,0,2],[\"NUM\",0,2,0,3]]}"
unfolding digits escape_byte
tokens = refl

-- over two lines, where each end has its own
tokens_of_two_lines : sent (tokens_reply one ((codes "WS", at 0 3 1 4) ∷ [])) ≡ codes "{\"id\":1,\"jsonrpc\":\"2.0\",\"result\":[[\"WS\",0,3,1,4]]}"
unfolding digits escape_byte
tokens_of_two_lines = refl

no_tokens : sent (tokens_reply one []) ≡ codes "{\"id\":1,\"jsonrpc\":\"2.0\",\"result\":[]}"
unfolding digits escape_byte
no_tokens = refl

-- `lr/tree`
tree : sent (tree_reply one (codes "(L)")) ≡ codes "{\"id\":1,\"jsonrpc\":\"2.0\",\"result\":\"(L)\"}"
unfolding digits escape_byte
tree = refl

-- `lr/stats`
counts : sent (stats_reply one (record { edit = 1; scanned = 3; tokens = 7; branches = 8; built = 4; nodes = 12 }))
    ≡ codes "{\"id\":1,\"jsonrpc\":\"2.0\",\"result\":{\"branches\":8,\"built\":4,\"edit\":1,\"nodes\":12,\"scanned\":3,\"tokens\":7}}"
unfolding digits escape_byte
counts = refl

-- `textDocument/foldingRange`
folds : sent (folds_reply one ((0, 2) ∷ (1, 2) ∷ [])) ≡ codes "{\"id\":1,\"jsonrpc\":\"2.0\",\"result\":[{\"endLine\":2,\"startLine\":0},{\"endLine\":2,\"startLine\":1}]}"
unfolding digits escape_byte
folds = refl

-- `textDocument/selectionRange`: a range with its parent, and a selection of no range
selections : sent (selections_reply one ((at 0 0 0 1 ∷ at 0 0 0 3 ∷ []) ∷ [] ∷ []))
    ≡ codes "{\"id\":1,\"jsonrpc\":\"2.0\",\"result\":[{\"parent\":{\"range\":{\"end\":{\"character\":3,\"line\":0},\"start\":{\"character\":0,\"line\":0}}},\"range\":{\"end\":{\"character\":1,\"line\":0},\"start\":{\"character\":0,\"line\":0}}},null]}"
unfolding digits escape_byte
selections = refl

selection_of_two_lines : sent (selections_reply one ((at 1 2 3 4 ∷ []) ∷ []))
    ≡ codes "{\"id\":1,\"jsonrpc\":\"2.0\",\"result\":[{\"range\":{\"end\":{\"character\":4,\"line\":3},\"start\":{\"character\":2,\"line\":1}}}]}"
unfolding digits escape_byte
selection_of_two_lines = refl

-- errors: each code with its text
error_parseerror : sent (error_reply None refusal.ParseError) ≡ codes "{\"error\":{\"code\":-32700,\"message\":\"parse error\"},\"id\":null,\"jsonrpc\":\"2.0\"}"
unfolding digits escape_byte
error_parseerror = refl

error_invalidrequest : sent (error_reply (Some one) refusal.InvalidRequest) ≡ codes "{\"error\":{\"code\":-32600,\"message\":\"invalid request\"},\"id\":1,\"jsonrpc\":\"2.0\"}"
unfolding digits escape_byte
error_invalidrequest = refl

error_methodnotfound : sent (error_reply (Some one) refusal.MethodNotFound) ≡ codes "{\"error\":{\"code\":-32601,\"message\":\"method not found\"},\"id\":1,\"jsonrpc\":\"2.0\"}"
unfolding digits escape_byte
error_methodnotfound = refl

error_invalidparams : sent (error_reply (Some one) refusal.InvalidParams) ≡ codes "{\"error\":{\"code\":-32602,\"message\":\"invalid params\"},\"id\":1,\"jsonrpc\":\"2.0\"}"
unfolding digits escape_byte
error_invalidparams = refl

error_documentnotopen : sent (error_reply (Some one) refusal.DocumentNotOpen) ≡ codes "{\"error\":{\"code\":-32602,\"message\":\"document not open\"},\"id\":1,\"jsonrpc\":\"2.0\"}"
unfolding digits escape_byte
error_documentnotopen = refl

error_notinitialized : sent (error_reply (Some one) refusal.NotInitialized) ≡ codes "{\"error\":{\"code\":-32002,\"message\":\"server not initialized\"},\"id\":1,\"jsonrpc\":\"2.0\"}"
unfolding digits escape_byte
error_notinitialized = refl

error_lost_toolarge : sent (error_reply (Some one) (refusal.DocumentLost loss.TooLarge)) ≡ codes "{\"error\":{\"code\":-32803,\"message\":\"document lost: too large\"},\"id\":1,\"jsonrpc\":\"2.0\"}"
unfolding digits escape_byte
error_lost_toolarge = refl

error_lost_malformedchange : sent (error_reply (Some one) (refusal.DocumentLost loss.MalformedChange))
    ≡ codes "{\"error\":{\"code\":-32803,\"message\":\"document lost: malformed change\"},\"id\":1,\"jsonrpc\":\"2.0\"}"
unfolding digits escape_byte
error_lost_malformedchange = refl

error_lost_memory : sent (error_reply (Some one) (refusal.DocumentLost loss.Memory)) ≡ codes "{\"error\":{\"code\":-32803,\"message\":\"document lost: no memory\"},\"id\":1,\"jsonrpc\":\"2.0\"}"
unfolding digits escape_byte
error_lost_memory = refl

-- `textDocument/publishDiagnostics`: a fault, none, and none without a version
fault : sent (published_diagnostics (codes "a:x") (Some (pos 1)) (Some (at 0 0 0 0, codes "unexpected end; expected NUM, LP")))
    ≡ codes "{\"jsonrpc\":\"2.0\",\"method\":\"textDocument/publishDiagnostics\",\"params\":{\"diagnostics\":[{\"message\":\"unexpected end; expected NUM, LP\",\"range\":{\"end\":{\"character\":0,\"line\":0},\"start\":{\"character\":0,\"line\":0}},\"severity\":1,\"source\":\"lrls\"}],\"uri\":\"a:x\",\"version\":1}}"
unfolding digits escape_byte
fault = refl

no_fault : sent (published_diagnostics (codes "a:x") (Some (pos 2)) None)
    ≡ codes "{\"jsonrpc\":\"2.0\",\"method\":\"textDocument/publishDiagnostics\",\"params\":{\"diagnostics\":[],\"uri\":\"a:x\",\"version\":2}}"
unfolding digits escape_byte
no_fault = refl

forgotten : sent (published_diagnostics (codes "a:x") None None) ≡ codes "{\"jsonrpc\":\"2.0\",\"method\":\"textDocument/publishDiagnostics\",\"params\":{\"diagnostics\":[],\"uri\":\"a:x\"}}"
unfolding digits escape_byte
forgotten = refl

-- `window/logMessage`: each text
log_openmalformed : sent (log_message event.OpenMalformed) ≡ codes "{\"jsonrpc\":\"2.0\",\"method\":\"window/logMessage\",\"params\":{\"message\":\"didOpen: malformed\",\"type\":1}}"
unfolding digits escape_byte
log_openmalformed = refl

log_changemalformed : sent (log_message event.ChangeMalformed) ≡ codes "{\"jsonrpc\":\"2.0\",\"method\":\"window/logMessage\",\"params\":{\"message\":\"didChange: malformed\",\"type\":1}}"
unfolding digits escape_byte
log_changemalformed = refl

log_closemalformed : sent (log_message event.CloseMalformed) ≡ codes "{\"jsonrpc\":\"2.0\",\"method\":\"window/logMessage\",\"params\":{\"message\":\"didClose: malformed\",\"type\":1}}"
unfolding digits escape_byte
log_closemalformed = refl

log_changenotopen : sent (log_message event.ChangeNotOpen) ≡ codes "{\"jsonrpc\":\"2.0\",\"method\":\"window/logMessage\",\"params\":{\"message\":\"didChange: document not open\",\"type\":1}}"
unfolding digits escape_byte
log_changenotopen = refl

log_closenotopen : sent (log_message event.CloseNotOpen) ≡ codes "{\"jsonrpc\":\"2.0\",\"method\":\"window/logMessage\",\"params\":{\"message\":\"didClose: document not open\",\"type\":1}}"
unfolding digits escape_byte
log_closenotopen = refl

log_toomanydocuments : sent (log_message event.TooManyDocuments) ≡ codes "{\"jsonrpc\":\"2.0\",\"method\":\"window/logMessage\",\"params\":{\"message\":\"didOpen: too many documents\",\"type\":1}}"
unfolding digits escape_byte
log_toomanydocuments = refl

log_lost : sent (log_message (event.Lost loss.TooLarge)) ≡ codes "{\"jsonrpc\":\"2.0\",\"method\":\"window/logMessage\",\"params\":{\"message\":\"document lost: too large\",\"type\":1}}"
unfolding digits escape_byte
log_lost = refl
