-- What the editor's server sends, as plain data, and what of it is the core's.
use Rattle.std.specs.Prelude.{ℕ, ℤ, Bool, true, false, List, [], ◌∷◌, codes, map, flat_map, Option, Some, option_map, string_bytes}
use Rattle.serde_json.specs.Data.{Data}
use Rattle.serde_json.specs.View.{view}
use Rattle.definitions.specs.declared.Range.{Range}
use Rattle.definitions.specs.declared.Unit.{Unit as Encoding}
use Rattle.replies.specs.Ids.{Ident, id_view}
use Rattle.replies.specs.Replies.{Answer, capabilities_reply, published_diagnostics, reply_view}
use Rattle.hover.specs.declared.hovers.HoverText.{HoverText}
use Rattle.hover.specs.declared.markup.Markup.{Markup}
use Rattle.hover.specs.declared.markup.Markup.TheVariants.{Markdown, Plain}
use Rattle.hover.specs.declared.partners.BracketPair.{BracketPair}
use Rattle.outline.specs.declared.symbols.OutlineSymbol.{OutlineSymbol}
use Rattle.editor_replies.specs.declared.sent.Change.{Change}
use Rattle.editor_replies.specs.declared.sent.Offered.{Offered}
use Rattle.editor_replies.specs.declared.sent.Fault.{Fault as ShownFault}
use Rattle.editor_replies.specs.declared.sent.Sent.{Sent}
use Rattle.editor_replies.specs.declared.sent.Sent.TheVariants as put

-- the fault of a document in the words of its language, with what more is said of it, if anything is, and the diagnostics of the faults
-- behind it
pub record WordedFault : Type 0 where
  pub uri : List ℕ
  pub version : Option ℤ
  pub range : Range
  pub words : List ℕ
  pub related : Option (List ℕ)
  pub behind : List Data

-- a change of a list of numbers: from place `start` on `delete_count` of them give way to others
pub record NumbersEdit : Type 0 where
  pub start : ℕ
  pub delete_count : ℕ
  pub numbers : List ℕ

-- what may stand in the place of a word: its rule's name, its kind (LSP 3.17, "CompletionItemKind"), and its text
pub record OfferData : Type 0 where
  pub name : List ℕ
  pub kind : ℕ
  pub text : List ℕ

-- a symbol of a document: its name, its kind (LSP 3.17, "SymbolKind"), how many symbols it lies in, its range, and that of its name
pub record SymbolData : Type 0 where
  pub name : List ℕ
  pub kind : ℕ
  pub depth : ℕ
  pub range : Range
  pub selection : Range

-- a text about a range of a document, with the name of its form (LSP 3.17, "MarkupKind")
pub record HoverData : Type 0 where
  pub form : List ℕ
  pub text : List ℕ
  pub range : Range

-- what is sent: an answer of the core as it is; the core's capabilities with those of the editor's server, the name of the server, what
-- begins a comment in the language, and the types of tokens by their numbers; the colours of a document, with the name of the result, or of
-- some of its lines, without one; what has changed of the colours, with the name of the result; what may stand at a range of a document;
-- the symbols of a document, with its URI where they are sent one after another; the text about what stands at a position; the ranges of
-- two brackets; the fault of a document in the words of the language, with the text that the core has for it; another answer in the place
-- of one of the core; a result that is any JSON value; another reply of the editor's server, in a form that the core's replies have; that
-- a request was cancelled; or of its own accord a notification of a method with parameters, or a request to the editor with an id, a
-- method, and parameters where it has some
pub data Message : Type 0 where
  of_core : Answer → Message
  capabilities : Ident → Encoding → List ℕ → List ℕ → List (List ℕ) → Message
  colours : Ident → Option (List ℕ) → List ℕ → Message
  changes : Ident → List ℕ → Option NumbersEdit → Message
  offers : Ident → Range → List OfferData → Message
  outline : Ident → Option (List ℕ) → List SymbolData → Message
  hover : Ident → Option HoverData → Message
  brackets : Ident → Option (Range × Range) → Message
  worded : WordedFault → List ℕ → Message
  grown : Answer → Answer → Message
  some_result : Ident → Data → Message
  own : Answer → Message
  cancelled : Ident → Message
  notice : List ℕ → Data → Message
  call : List ℕ → List ℕ → Option Data → Message

-- `core_part message`: the answer of the core that a message is, without what the editor's server adds; none where it is all its own
abbrev pub core_part : Message → List Answer
core_part (of_core answer) = answer ∷ []
core_part (capabilities id unit name comment types) = capabilities_reply id unit ∷ []
core_part (colours id name numbers) = []
core_part (changes id name change) = []
core_part (offers id range found) = []
core_part (outline id list_of symbols) = []
core_part (hover id shown) = []
core_part (brackets id pair) = []
core_part (worded fault text) = published_diagnostics fault.uri fault.version (Some (fault.range, text)) ∷ []
core_part (grown answer sent) = answer ∷ []
core_part (some_result id value) = []
core_part (own answer) = []
core_part (cancelled id) = []
core_part (notice method params) = []
core_part (call id method params) = []

-- whether a message is sent of the editor's server's own accord: it is no reply, and nothing of the core's
abbrev pub is_remark : Message → Bool
is_remark (notice method params) = true
is_remark (call id method params) = true
is_remark message = false

-- the answers of the core that are sent, in order
abbrev pub core_answers : List Message → List Answer
core_answers messages = flat_map core_part messages

-- a fault of the code as a `WordedFault`
abbrev pub fault_view : ShownFault → WordedFault
fault_view f = record {
  uri = string_bytes f.uri;
  version = f.version;
  range = f.range;
  words = string_bytes f.words;
  related = option_map (λ text. string_bytes text) f.related;
  behind = map view f.behind.items;
}

-- a change of numbers of the code as a `NumbersEdit`
abbrev pub change_view : Change → NumbersEdit
change_view c = record { start = c.start; delete_count = c.delete_count; numbers = c.numbers.items }

-- an offer of the code as `OfferData`
abbrev pub offer_view : Offered → OfferData
offer_view o = record { name = string_bytes o.name; kind = o.kind; text = string_bytes o.text }

-- a symbol of the code as `SymbolData`
abbrev pub symbol_view : OutlineSymbol → SymbolData
symbol_view s = record { name = string_bytes s.name; kind = s.kind; depth = s.depth; range = s.range; selection = s.selection }

-- the name of a form of texts (LSP 3.17, "MarkupKind")
abbrev pub markup_name : Markup → List ℕ
markup_name Plain = codes "plaintext"
markup_name Markdown = codes "markdown"

-- `hover_view form hover`: a text of the code in this form, as `HoverData`
abbrev pub hover_view : Markup → HoverText → HoverData
hover_view form h = record { form = markup_name form; text = string_bytes h.text; range = h.range }

-- the ranges of two brackets of the code
abbrev pub pair_view : BracketPair → Range × Range
pair_view b = (b.opening, b.closing)

-- `message_view sent`: what the code sends as a `Message`
abbrev pub message_view : Sent → Message
message_view (put.Core reply) = of_core (reply_view reply)
message_view (put.Capabilities id unit name comment types) =
    capabilities (id_view id) unit (string_bytes name) (string_bytes comment) (map (λ text. text.now) types.now)
message_view (put.Colours id name numbers) = colours (id_view id) (option_map (λ text. string_bytes text) name) numbers.items
message_view (put.Changes id name change) = changes (id_view id) (string_bytes name) (option_map change_view change)
message_view (put.Offers id range found) = offers (id_view id) range (map offer_view found.items)
message_view (put.Outline id list_of symbols) =
    outline (id_view id) (option_map (λ text. string_bytes text) list_of) (map symbol_view symbols.items)
message_view (put.Hover id found form) = hover (id_view id) (option_map (hover_view form) found)
message_view (put.Brackets id pair) = brackets (id_view id) (option_map pair_view pair)
message_view (put.Fault fault text) = worded (fault_view fault) (string_bytes text)
message_view (put.Grown reply sent) = grown (reply_view reply) (reply_view sent)
message_view (put.Result id value) = some_result (id_view id) (view value)
message_view (put.Own reply) = own (reply_view reply)
message_view (put.Cancelled id) = cancelled (id_view id)
message_view (put.Notice method params) = notice method.now (view params)
message_view (put.Call id method params) = call id.now method.now (option_map view params)
