-- What the editor's server sends, as JSON values (LSP 3.17, "Semantic Tokens", "Initialize Request").
use Rattle.std.specs.Prelude.{Bool, true, false, negsuc, ℕ, zero, suc, ◌+◌, nat_le, nat_lt, List, [], ◌∷◌, codes, flat_map, if◌then◌else◌}
use Rattle.std.specs.Prelude.{map, take_while, Option, Some, None, option_map}
use Rattle.serde_json.specs.Data.{Data, Items, array, boolean, item, member, no_items, no_members, null, number, object, string, unsigned}
use Rattle.serde_json.specs.View.{items_of, view}
use Rattle.definitions.specs.declared.Range.{Range}
use Rattle.definitions.specs.declared.Unit.{Unit as Encoding}
use Rattle.frames.specs.Write.{frame}
use Rattle.replies.specs.Replies.{diagnostic_data, error_data, error_object, id_data, notice_data, published, range_data, reply_data}
use Rattle.replies.specs.Replies.{result_data}
use Rattle.replies.specs.Replies.{synchronisation, unit_name}
use Rattle.serde_json.specs.Written.{compact_text, has_float}
use Rattle.editor_replies.specs.declared.sending.Outcome.{Outcome}
use Rattle.editor_replies.specs.declared.sending.Outcome.TheVariants as put
use Rattle.editor_replies.specs.Sent.{Message, NumbersEdit, OfferData, SymbolData, WordedFault, change_view, offer_view}
use Rattle.editor_replies.specs.Sent.{call, cancelled, capabilities, changes, colours, grown, notice, of_core, offers, own, some_result}
use Rattle.editor_replies.specs.Sent.{HoverData, brackets, hover, hover_view, outline, pair_view, symbol_view, worded}

-- the JSON values of numbers, in order
abbrev pub number_items : List ℕ → Items
number_items numbers = items_of (map (λ n. number (unsigned n)) numbers)

-- `colours_result name numbers`: the JSON value of the result with the numbers of colours, with its name where it has one (LSP 3.17,
-- "SemanticTokens")
abbrev pub colours_result : Option (List ℕ) → List ℕ → Data
colours_result None numbers = object (member (codes "data") (array (number_items numbers)) no_members)
colours_result (Some name) numbers = object
    (member (codes "data") (array (number_items numbers))
    (member (codes "resultId") (string name) no_members))

-- the JSON value of a change of numbers (LSP 3.17, "SemanticTokensEdit")
abbrev pub change_data : NumbersEdit → Data
change_data change = object
    (member (codes "data") (array (number_items change.numbers))
    (member (codes "deleteCount") (number (unsigned change.delete_count))
    (member (codes "start") (number (unsigned change.start)) no_members)))

-- the JSON values of a change, if there is one
abbrev pub change_items : Option NumbersEdit → Items
change_items None = no_items
change_items (Some change) = item (change_data change) no_items

-- `changes_result name change`: the JSON value of the result with what has changed of colours, and its name (LSP 3.17,
-- "SemanticTokensDelta")
abbrev pub changes_result : List ℕ → Option NumbersEdit → Data
changes_result name change = object
    (member (codes "edits") (array (change_items change))
    (member (codes "resultId") (string name) no_members))

-- the JSON values of texts, in order
abbrev pub text_items : List (List ℕ) → Items
text_items texts = items_of (map string texts)

-- no modifiers
abbrev pub no_modifiers : Data
no_modifiers = array no_items

-- the types of tokens by their numbers, and no modifiers (LSP 3.17, "SemanticTokensLegend")
abbrev pub legend : List (List ℕ) → Data
legend types = object
    (member (codes "tokenModifiers") no_modifiers
    (member (codes "tokenTypes") (array (text_items types)) no_members))

-- that what has changed of colours is asked for too
abbrev pub changes_option : Data
changes_option = object (member (codes "delta") (boolean true) no_members)

-- that the colours of a document are asked for whole, what has changed of them, or by lines (LSP 3.17, "SemanticTokensOptions")
abbrev pub colours_options : List (List ℕ) → Data
colours_options types = object
    (member (codes "full") changes_option
    (member (codes "legend") (legend types)
    (member (codes "range") (boolean true) no_members)))

-- what begins a comment
abbrev pub comment_object : List ℕ → Data
comment_object comment = object (member (codes "comment") (string comment) no_members)

-- what no capability of the protocol says
abbrev pub comment_data : List ℕ → Data
comment_data comment = object (member (codes "lrls") (comment_object comment) no_members)

-- what the server can do: the core's capabilities, and those of the editor's server (LSP 3.17, "ServerCapabilities")
abbrev pub capability_list : Encoding → List ℕ → List (List ℕ) → Data
capability_list unit comment types = object
    (member (codes "codeActionProvider") (boolean true)
    (member (codes "completionProvider") (object no_members)
    (member (codes "documentHighlightProvider") (boolean true)
    (member (codes "documentSymbolProvider") (boolean true)
    (member (codes "experimental") (comment_data comment)
    (member (codes "foldingRangeProvider") (boolean true)
    (member (codes "hoverProvider") (boolean true)
    (member (codes "positionEncoding") (string (unit_name unit))
    (member (codes "selectionRangeProvider") (boolean true)
    (member (codes "semanticTokensProvider") (colours_options types)
    (member (codes "textDocumentSync") synchronisation no_members)))))))))))

-- who the server is (LSP 3.17, "InitializeResult")
abbrev pub server_info : List ℕ → Data
server_info name = object (member (codes "name") (string name) no_members)

-- the result of `initialize` (LSP 3.17, "InitializeResult")
abbrev pub initialized_data : Encoding → List ℕ → List ℕ → List (List ℕ) → Data
initialized_data unit name comment types = object
    (member (codes "capabilities") (capability_list unit comment types)
    (member (codes "serverInfo") (server_info name) no_members))

-- what a text edit puts at a range (LSP 3.17, "TextEdit")
abbrev pub text_edit_data : Range → List ℕ → Data
text_edit_data range text = object
    (member (codes "newText") (string text)
    (member (codes "range") (range_data range) no_members))

-- `offer_data range offer`: the JSON value of what may stand at a range (LSP 3.17, "CompletionItem")
abbrev pub offer_data : Range → OfferData → Data
offer_data range offer = object
    (member (codes "detail") (string offer.name)
    (member (codes "filterText") (string offer.text)
    (member (codes "kind") (number (unsigned offer.kind))
    (member (codes "label") (string offer.text)
    (member (codes "textEdit") (text_edit_data range offer.text) no_members)))))

-- the JSON values of all that may stand at a range, in order
abbrev pub offer_items : Range → List OfferData → Items
offer_items range found = items_of (map (offer_data range) found)

-- all that may stand at a range, in order: a whole list (LSP 3.17, "CompletionList")
abbrev pub offers_result : Range → List OfferData → Data
offers_result range found = object
    (member (codes "isIncomplete") (boolean false)
    (member (codes "items") (array (offer_items range found)) no_members))

-- the JSON value, or `null` where it has a number with a fraction
abbrev pub without_fractions : Data → Data
without_fractions value = if has_float value then null else value

-- where something is (LSP 3.17, "Location")
abbrev pub location_data : List ℕ → Range → Data
location_data uri range = object
    (member (codes "range") (range_data range)
    (member (codes "uri") (string uri) no_members))

-- `nested_data symbol inner`: a symbol, with those that lie in it (LSP 3.17, "DocumentSymbol")
abbrev pub nested_data : SymbolData → Items → Data
nested_data symbol inner = object
    (member (codes "children") (array inner)
    (member (codes "kind") (number (unsigned symbol.kind))
    (member (codes "name") (string symbol.name)
    (member (codes "range") (range_data symbol.range)
    (member (codes "selectionRange") (range_data symbol.selection) no_members)))))

-- `inside depth symbols`: those at the head of the symbols that lie in more than `depth` others
abbrev pub inside : ℕ → List SymbolData → List SymbolData
inside depth symbols = take_while (λ s. nat_lt depth s.depth) symbols

-- `forest levels depth symbols`: the symbols that lie in at most `depth` others, in order, and in each those behind it that lie deeper, up
-- to the next one of these; that goes on for so many levels, and on the last one all of them stand one after another
abbrev pub forest : ℕ → ℕ → List SymbolData → Items
forest zero depth [] = no_items
forest zero depth (s ∷ symbols) = item (nested_data s no_items) (forest zero depth symbols)
forest (suc levels) depth [] = no_items
forest (suc levels) depth (s ∷ symbols) =
    if nat_le s.depth depth
    then item (nested_data s (forest levels (depth + 1) (inside depth symbols))) (forest (suc levels) depth symbols)
    else forest (suc levels) depth symbols

-- `is_shown_at levels depth symbol`: whether a symbol is one of those of `forest levels depth` that lie in no others of them
abbrev pub is_shown_at : ℕ → ℕ → SymbolData → Bool
is_shown_at zero depth symbol = true
is_shown_at (suc levels) depth symbol = nat_le symbol.depth depth

-- `below levels depth symbols`: what `forest levels depth` has in a symbol that has these behind it
abbrev pub below : ℕ → ℕ → List SymbolData → Items
below zero depth symbols = no_items
below (suc levels) depth symbols = forest levels (depth + 1) (inside depth symbols)

-- `listed_data uri symbol`: a symbol of the document of a URI, without those that lie in it (LSP 3.17, "SymbolInformation")
abbrev pub listed_data : List ℕ → SymbolData → Data
listed_data uri symbol = object
    (member (codes "kind") (number (unsigned symbol.kind))
    (member (codes "location") (location_data uri symbol.range)
    (member (codes "name") (string symbol.name) no_members)))

-- `listed_items uri symbols`: the symbols of the document of a URI, one after another
abbrev pub listed_items : List ℕ → List SymbolData → Items
listed_items uri symbols = items_of (map (listed_data uri) symbols)

-- in how many others a symbol is shown at most
abbrev pub most_depth : ℕ
most_depth = 64

-- `outline_result list_of symbols`: the symbols, each with those that lie in it; or, where the URI of their document is given, one after
-- another (LSP 3.17, "Document Symbols Request")
abbrev pub outline_result : Option (List ℕ) → List SymbolData → Data
outline_result None symbols = array (forest most_depth 0 symbols)
outline_result (Some uri) symbols = array (listed_items uri symbols)

-- `content_data form text`: a text in its form (LSP 3.17, "MarkupContent")
abbrev pub content_data : List ℕ → List ℕ → Data
content_data form text = object
    (member (codes "kind") (string form)
    (member (codes "value") (string text) no_members))

-- a text about a range (LSP 3.17, "Hover")
abbrev pub hover_data : HoverData → Data
hover_data h = object
    (member (codes "contents") (content_data h.form h.text)
    (member (codes "range") (range_data h.range) no_members))

-- the text about what stands at a position, if there is one (LSP 3.17, "Hover Request")
abbrev pub hover_result : Option HoverData → Data
hover_result None = null
hover_result (Some h) = hover_data h

-- a range that is highlighted, neither as read nor as written (LSP 3.17, "DocumentHighlight")
abbrev pub highlight_data : Range → Data
highlight_data range = object
    (member (codes "kind") (number (unsigned 1))
    (member (codes "range") (range_data range) no_members))

-- two brackets
abbrev pub pair_data : Range × Range → Data
pair_data pair = array (item (highlight_data pair.0) (item (highlight_data pair.1) no_items))

-- the brackets of a node, if any (LSP 3.17, "Document Highlights Request")
abbrev pub brackets_result : Option (Range × Range) → Data
brackets_result None = array no_items
brackets_result (Some pair) = pair_data pair

-- what stands beside a diagnostic, at its own place (LSP 3.17, "DiagnosticRelatedInformation")
abbrev pub related_data : List ℕ → Range → List ℕ → Data
related_data uri range text = object
    (member (codes "location") (location_data uri range)
    (member (codes "message") (string text) no_members))

-- a diagnostic as the core has it, or with what stands beside it (LSP 3.17, "Diagnostic")
abbrev pub fault_data : WordedFault → Option (List ℕ) → Data
fault_data fault None = diagnostic_data (fault.range, fault.words)
fault_data fault (Some text) = object
    (member (codes "message") (string fault.words)
    (member (codes "range") (range_data fault.range)
    (member (codes "relatedInformation") (array (item (related_data fault.uri fault.range text) no_items))
    (member (codes "severity") (number (unsigned 1))
    (member (codes "source") (string (codes "lrls")) no_members)))))

-- JSON values as they are sent, in order
abbrev pub value_items : List Data → Items
value_items values = items_of (map without_fractions values)

-- the diagnostics of a document that has a fault: that of its fault, and those behind it
abbrev pub fault_items : WordedFault → Items
fault_items fault = item (fault_data fault fault.related) (value_items fault.behind)

-- the diagnostics of a document that has a fault, as they are published (LSP 3.17, "PublishDiagnosticsParams")
abbrev pub worded_data : WordedFault → Data
worded_data fault = notice_data (codes "textDocument/publishDiagnostics") (published fault.uri fault.version (array (fault_items fault)))

-- `bare_call id method`: a request to the editor without parameters (JSON-RPC 2.0, "Request object")
abbrev pub bare_call : List ℕ → List ℕ → Data
bare_call id method = object
    (member (codes "id") (string id)
    (member (codes "jsonrpc") (string (codes "2.0"))
    (member (codes "method") (string method) no_members)))

-- `full_call id method params`: a request to the editor with these parameters (JSON-RPC 2.0, "Request object")
abbrev pub full_call : List ℕ → List ℕ → Data → Data
full_call id method params = object
    (member (codes "id") (string id)
    (member (codes "jsonrpc") (string (codes "2.0"))
    (member (codes "method") (string method)
    (member (codes "params") params no_members))))

-- `call_data id method params`: a request to the editor, with its parameters where it has some
abbrev pub call_data : List ℕ → List ℕ → Option Data → Data
call_data id method None = bare_call id method
call_data id method (Some params) = full_call id method (without_fractions params)

-- why a cancelled request has no result (LSP 3.17, "ErrorCodes": `RequestCancelled`)
abbrev pub cancelled_error : Data
cancelled_error = error_object (negsuc 32799) (codes "request cancelled")

-- the reply to a cancelled request, by the JSON value of its id (LSP 3.17, "Cancellation Support")
abbrev pub cancelled_data : Data → Data
cancelled_data id = error_data id (negsuc 32799) (codes "request cancelled")

-- `message_data message`: the JSON value of what is sent, with the keys in byte order
abbrev pub message_data : Message → Data
message_data (of_core answer) = reply_data answer
message_data (capabilities id unit name comment types) = result_data (id_data id) (initialized_data unit name comment types)
message_data (colours id name numbers) = result_data (id_data id) (colours_result name numbers)
message_data (changes id name change) = result_data (id_data id) (changes_result name change)
message_data (offers id range found) = result_data (id_data id) (offers_result range found)
message_data (outline id list_of symbols) = result_data (id_data id) (outline_result list_of symbols)
message_data (hover id shown) = result_data (id_data id) (hover_result shown)
message_data (brackets id pair) = result_data (id_data id) (brackets_result pair)
message_data (worded fault text) = worded_data fault
message_data (grown answer sent) = reply_data sent
message_data (some_result id value) = result_data (id_data id) (without_fractions value)
message_data (own answer) = reply_data answer
message_data (cancelled id) = cancelled_data (id_data id)
message_data (notice method params) = notice_data method (without_fractions params)
message_data (call id method params) = call_data id method params

-- what a request is answered with in the code, as a JSON value
abbrev pub outcome_data : Outcome → Data
outcome_data (put.Capabilities unit name comment types) = initialized_data unit name.now comment.now (map (λ text. text.now) types.now)
outcome_data (put.Colours name numbers) = colours_result (option_map (λ text. text.now) name) numbers.now
outcome_data (put.Offers range found) = offers_result range (map offer_view found.now)
outcome_data (put.Outline list_of symbols) = outline_result (option_map (λ text. text.now) list_of) (map symbol_view symbols.now)
outcome_data (put.Hover found form) = hover_result (option_map (hover_view form) found.now)
outcome_data (put.Brackets pair) = brackets_result (option_map pair_view pair)
outcome_data (put.Value value) = without_fractions (view value.now)
outcome_data (put.Changes name change) = changes_result name.now (option_map change_view change.now)

-- the messages as compact JSON texts, each in a frame
abbrev pub bytes_of : List Message → List ℕ
bytes_of messages = flat_map (λ m. frame (compact_text (message_data m))) messages
