-- What the editor's server replies to the requests that the core doesn't know.
use Rattle.std.specs.Prelude.{◌≡◌, ◌⊎◌, ◌+◌, ◌&&◌, ℕ, List, ◌++◌, take, drop, map, decimal, if◌then◌else◌}
use Rattle.std.specs.Prelude.{Option, Some, None, Bool, true, false, codes, option_map, All, Contains, IfSome}
use Rattle.std.specs.FinMap.{get}
use Rattle.std.specs.Str.{bytes_eq}
use Rattle.serde_json.specs.Data.{Data, null, string}
use Rattle.serde_json.specs.Find.{get as member_of}
use Rattle.definitions.specs.Text.{offset, position}
use Rattle.definitions.specs.declared.Position.{Position}
use Rattle.definitions.specs.declared.Range.{Range}
use Rattle.definitions.specs.declared.Kind.{Kind}
use Rattle.definitions.specs.Tokens.{kinds}
use Rattle.docs.specs.Languages.{IsLanguageOf, IsLoadFault}
use Rattle.docs.specs.declared.language.LoadFault.{LoadFault}
use Rattle.docs.specs.declared.language.LoadFault.TheVariants.{Memory}
use Rattle.grammar.specs.Grammars.{FileGrammar}
use Rattle.completion.specs.Offers.{AreOffers}
use Rattle.hover.specs.Ranges.{AreBrackets, IsRangeAt}
use Rattle.hover.specs.declared.hovers.HoverText.{HoverText}
use Rattle.hover.specs.declared.markup.Markup.{Markup}
use Rattle.hover.specs.declared.partners.BracketPair.{BracketPair}
use Rattle.mending.specs.Mendings.{IsMended}
use Rattle.outline.specs.Nesting.{AreNested}
use Rattle.outline.specs.Symbols.{IsPlaced}
use Rattle.outline.specs.declared.symbols.OutlineSymbol.{OutlineSymbol}
use Rattle.mending.specs.declared.repair.Repair.{Repair}
use Rattle.colours.specs.Parts.{Scans, coloured, decoded, within}
use Rattle.readings.specs.Texts.{OpenDocument}
use Rattle.replies.specs.Ids.{Ident}
use Rattle.replies.specs.Replies.{error_reply}
use Rattle.replies.specs.declared.reply.Refusal.TheVariants.{DocumentLost, DocumentNotOpen, InvalidParams}
use Rattle.sessions.specs.Documents.{DocumentState, is_lost, is_open}
use Rattle.questions.specs.Asked.{Asked, Question, a_grammar, about, its_brackets, its_changes, its_colours, its_fixes, its_hover}
use Rattle.questions.specs.Asked.{its_lines, its_nodes, its_offers, its_outline, its_rows, misfit}
use Rattle.editor_replies.specs.Sent.{Message, NumbersEdit, OfferData, brackets, changes, colours, hover, hover_view, offers, outline, own}
use Rattle.editor_replies.specs.Sent.{pair_view, some_result, symbol_view}
use Rattle.own_replies.specs.States.{IdeState, Told, next}

-- the numbers decode to exactly the parts of those tokens of the document whose rule has a colour (LSP 3.17, "Semantic Tokens")
abbrev pub AreColours : IdeState → OpenDocument → List ℕ → Type 0
AreColours old d numbers =
    Scans old.core.file.patterns d.text (λ tokens. decoded numbers ≡ coloured d.unit d.text old.shown.palette tokens)

-- `AreColoursOfLines old d first end numbers`: the same of the parts on the lines from `first` up to `end`, that one left out
abbrev pub AreColoursOfLines : IdeState → OpenDocument → ℕ → ℕ → List ℕ → Type 0
AreColoursOfLines old d first end numbers =
    Scans old.core.file.patterns d.text (λ tokens. decoded numbers ≡ within first end (coloured d.unit d.text old.shown.palette tokens))

-- the name of the next result: its number
abbrev pub next_name : IdeState → List ℕ
next_name old = decimal (next old.number)

-- `tells old uri numbers`: the colours of the whole document are sent as the next result
abbrev pub tells : IdeState → List ℕ → List ℕ → IdeState
tells old uri numbers = record {
  core = old.core;
  shown = old.shown;
  number = next old.number;
  told = Some (record { uri = uri; name = next_name old; numbers = numbers });
}

-- `since told uri previous`: the numbers that were sent last, where they are the document's and the result has this name
abbrev pub since : Option Told → List ℕ → List ℕ → Option (List ℕ)
since None uri previous = None
since (Some told) uri previous =
    if bytes_eq told.uri uri && bytes_eq told.name previous then Some told.numbers else None

-- `edited change numbers`: from place `start` on `delete_count` numbers give way to others; without a change all stay (LSP 3.17,
-- "SemanticTokensEdit")
abbrev pub edited : Option NumbersEdit → List ℕ → List ℕ
edited None numbers = numbers
edited (Some e) numbers = take e.start numbers ++ e.numbers ++ drop (e.start + e.delete_count) numbers

-- `AreChanges id name before numbers message`: the numbers are sent, as this result: as a change of those before, or where there are none,
-- whole
abbrev pub AreChanges : Ident → List ℕ → Option (List ℕ) → List ℕ → Message → Type 0
AreChanges id name None numbers message = message ≡ colours id (Some name) numbers
AreChanges id name (Some before) numbers message =
    (change : Option NumbersEdit) × (edited change before ≡ numbers) × (message ≡ changes id name change)

-- from one offset of a document up to another
abbrev pub between : OpenDocument → ℕ → ℕ → Range
between d start end = record { start = position d.unit d.text start; end = position d.unit d.text end }

-- `AreRepairsOf file t repairs`: the repairs mend faults of a text: each stands at the first fault of what those before it have made of the
-- kinds of its tokens
abbrev pub AreRepairsOf : FileGrammar → List ℕ → List Repair → Type 0
AreRepairsOf file t repairs =
    Scans file.patterns t (λ tokens. (copy : List Kind) × IsMended file.grammar (kinds file.skips tokens) repairs copy)

-- `AreOffersAt old id d place message`: the texts of exactly the rules that may follow at a position are offered, in file order, in
-- the place of the word before it. Where no sentence begins with what stands before that, it is as repairs of the text mend it
abbrev pub AreOffersAt : IdeState → Ident → OpenDocument → Position → Message → Type 0
AreOffersAt old id d place message =
    (start : ℕ) × (found : List (ℕ × List ℕ)) × (shown_offers : List OfferData)
    × (repairs : List Repair) × AreRepairsOf old.core.file d.text repairs
    × AreOffers old.core.file old.shown.texts repairs d.text (offset d.unit d.text place) start found
    × (map (λ o. o.text) shown_offers ≡ map (λ r. r.1) found)
    × (message ≡ offers id (between d start (offset d.unit d.text place)) shown_offers)

-- `IsSymbol kinds d s`: a symbol stands in the text of a document, with its name in it, and has one of these kinds
abbrev pub IsSymbol : List ℕ → OpenDocument → OutlineSymbol → Type 0
IsSymbol kinds d s = IsPlaced d.unit d.text s × Contains kinds s.kind

-- `IsNoneOr uri list_of`: there is none, or this one
abbrev pub IsNoneOr : List ℕ → Option (List ℕ) → Type 0
IsNoneOr uri list_of = (list_of ≡ None) ⊎ (list_of ≡ Some uri)

-- `IsOutline old id uri d message`: symbols of a document are sent, with the kinds that the settings have, each before those that lie in
-- it; as a list, with the URI of the document, or not
abbrev pub IsOutline : IdeState → Ident → List ℕ → OpenDocument → Message → Type 0
IsOutline old id uri d message =
    (symbols : List OutlineSymbol) × (list_of : Option (List ℕ)) × All (IsSymbol old.shown.kinds d) symbols
    × AreNested (map (λ s. s.depth) symbols) × IsNoneOr uri list_of
    × (message ≡ outline id list_of (map symbol_view symbols))

-- `IsHover id d place message`: a text in some form is sent about a range of a document that has a position, or that there is none
abbrev pub IsHover : Ident → OpenDocument → Position → Message → Type 0
IsHover id d place message =
    (found : Option HoverText) × (form : Markup) × IfSome found (λ h. IsRangeAt d.unit d.text place h.range)
    × (message ≡ hover id (option_map (hover_view form) found))

-- `AreBracketsAt id d place message`: two brackets of a document are sent, one of which has a position, or that there are none
abbrev pub AreBracketsAt : Ident → OpenDocument → Position → Message → Type 0
AreBracketsAt id d place message =
    (pair : Option BracketPair) × IfSome pair (AreBrackets d.unit d.text place) × (message ≡ brackets id (option_map pair_view pair))

-- `IsSomeResult id message`: a result, whichever
abbrev pub IsSomeResult : Ident → Message → Type 0
IsSomeResult id message = (value : Data) × (message ≡ some_result id value)

-- `IsSomeResultIfFit id message`: a result, whichever, or that the parameters don't fit
abbrev pub IsSomeResultIfFit : Ident → Message → Type 0
IsSomeResultIfFit id message = IsSomeResult id message ⊎ (message ≡ own (error_reply (Some id) InvalidParams))

-- `IsReplyOf old id uri d question message new`: what is replied about the open document of a URI, and what stays of it: its colours,
-- what has changed of them, or those of some lines; what may follow at a position; symbols; a text about what stands at a position, or
-- brackets; or some fixes, rows of tokens, or nodes, if those that are named are a list of ways
abbrev pub IsReplyOf : IdeState → Ident → List ℕ → OpenDocument → Question → Message → IdeState → Type 0
IsReplyOf old id uri d its_colours message new =
    (numbers : List ℕ) × AreColours old d numbers × (message ≡ colours id (Some (next_name old)) numbers)
    × (new ≡ tells old uri numbers)
IsReplyOf old id uri d (its_changes previous) message new =
    (numbers : List ℕ) × AreColours old d numbers
    × AreChanges id (next_name old) (since old.told uri previous) numbers message × (new ≡ tells old uri numbers)
IsReplyOf old id uri d (its_lines first end) message new =
    (numbers : List ℕ) × AreColoursOfLines old d first end numbers × (message ≡ colours id None numbers) × (new ≡ old)
IsReplyOf old id uri d (its_offers place) message new = AreOffersAt old id d place message × (new ≡ old)
IsReplyOf old id uri d its_outline message new = IsOutline old id uri d message × (new ≡ old)
IsReplyOf old id uri d (its_hover place) message new = IsHover id d place message × (new ≡ old)
IsReplyOf old id uri d (its_brackets place) message new = AreBracketsAt id d place message × (new ≡ old)
IsReplyOf old id uri d (its_fixes range) message new = IsSomeResult id message × (new ≡ old)
IsReplyOf old id uri d (its_rows first end) message new = IsSomeResult id message × (new ≡ old)
IsReplyOf old id uri d (its_nodes place named) message new = IsSomeResultIfFit id message × (new ≡ old)

-- `IsReplyAbout old id uri document question message new`: what is replied about a document: that it isn't open; or why it is lost;
-- or, where it is open, what `IsReplyOf` has
abbrev pub IsReplyAbout : IdeState → Ident → List ℕ → Option DocumentState → Question → Message → IdeState → Type 0
IsReplyAbout old id uri None question message new = (message ≡ own (error_reply (Some id) DocumentNotOpen)) × (new ≡ old)
IsReplyAbout old id uri (Some (is_lost loss)) question message new =
    (message ≡ own (error_reply (Some id) (DocumentLost loss))) × (new ≡ old)
IsReplyAbout old id uri (Some (is_open d)) question message new = IsReplyOf old id uri d question message new

-- a grammar file with this text defines a language
abbrev pub HasLanguage : List ℕ → Type 0
HasLanguage text = (file : FileGrammar) × IsLanguageOf text file

-- whether what is wrong is that memory is wanting
abbrev pub is_memory : LoadFault → Bool
is_memory Memory = true
is_memory _ = false

-- a grammar file with this text has a fault: another one than that memory is wanting
abbrev pub HasFault : List ℕ → Type 0
HasFault text = (fault : LoadFault) × IsLoadFault text fault × (is_memory fault ≡ false)

-- no fault is told, and settings are
abbrev pub TellsSettings : Data → Type 0
TellsSettings value =
    (settings : List ℕ) × (member_of (codes "fault") value ≡ Some null)
    × (member_of (codes "settings") value ≡ Some (string settings))

-- a fault is told, with a message
abbrev pub TellsFault : Data → Type 0
TellsFault value =
    (fault : Data) × (message : List ℕ) × (member_of (codes "fault") value ≡ Some fault)
    × (member_of (codes "message") fault ≡ Some (string message))

-- `TellsWhether text value`: what is told of a grammar file with this text: settings only where it defines a language, and a fault only
-- where it has one
abbrev pub TellsWhether : List ℕ → Data → Type 0
TellsWhether text value = (TellsSettings value × HasLanguage text) ⊎ (TellsFault value × HasFault text)

-- `IsTold id text message`: what is replied of a grammar file with this text
abbrev pub IsTold : Ident → List ℕ → Message → Type 0
IsTold id text message = (value : Data) × TellsWhether text value × (message ≡ some_result id value)

-- `IsReply old id asked message new`: what is replied to a request of the editor's server
abbrev pub IsReply : IdeState → Ident → Asked → Message → IdeState → Type 0
IsReply old id misfit message new = (message ≡ own (error_reply (Some id) InvalidParams)) × (new ≡ old)
IsReply old id (a_grammar text) message new = IsTold id text message × (new ≡ old)
IsReply old id (about uri question) message new = IsReplyAbout old id uri (get old.core.documents uri) question message new
