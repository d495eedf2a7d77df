-- The requests that the editor's server answers itself, not the core (LSP 3.17, "Language Features").
use Rattle.std.specs.Prelude.{ℕ, ◌+◌, max, min, if◌then◌else◌, List, codes, string_bytes}
use Rattle.std.specs.Prelude.{Option, Some, None, option_and_then, option_map, unwrap_or}
use Rattle.std.specs.Str.{bytes_eq}
use Rattle.serde_json.specs.Data.{Data, null}
use Rattle.serde_json.specs.Find.{get}
use Rattle.serde_json.specs.View.{view}
use Rattle.definitions.specs.declared.Position.{Position}
use Rattle.definitions.specs.declared.Range.{Range}
use Rattle.rpc.specs.Fields.{text_at}
use Rattle.rpc.specs.Reading.{params_at, position_at, range_of, uri_at, value_of}
use Rattle.questions.specs.declared.asked.Asked.{Asked as Put}
use Rattle.questions.specs.declared.asked.Asked.TheVariants as put
use Rattle.questions.specs.declared.asked.Question.{Question as Wish}
use Rattle.questions.specs.declared.asked.Question.TheVariants as wish

-- what is asked of a document: its colours; what has changed of them since the result of this name; those of the lines from one up to
-- another, that one left out; its outline; or at a position what may follow, what stands there, or the brackets of one node of which one
-- is there; what mends the faults at a range; the tokens of the lines from one up to another, that one left out; or the nodes of its tree
-- around a position, and those that a JSON value names
pub data Question : Type 0 where
  its_colours : Question
  its_changes : List ℕ → Question
  its_lines : ℕ → ℕ → Question
  its_outline : Question
  its_offers : Position → Question
  its_hover : Position → Question
  its_brackets : Position → Question
  its_fixes : Range → Question
  its_rows : ℕ → ℕ → Question
  its_nodes : Position → Data → Question

-- what a request asks: of the document of a URI this; of a grammar file of this text what is wrong with it, or what settings are guessed
-- for it; or its parameters don't fit its method
pub data Asked : Type 0 where
  about : List ℕ → Question → Asked
  a_grammar : List ℕ → Asked
  misfit : Asked

-- the lines that a range has a part of, its ends in either order: the first one, and the one after the last, at most the greatest number of
-- 32 bits
abbrev pub lines_of : Range → ℕ × ℕ
lines_of r = (min r.start.line r.end.line, min (max r.start.line r.end.line + 1) 4_294_967_295)

-- `about_document uri question`: the question about the document of the URI; where one is missing, the parameters don't fit
abbrev pub about_document : Option (List ℕ) → Option Question → Asked
about_document (Some uri) (Some question) = about uri question
about_document _ _ = misfit

-- the range that is asked about (LSP 3.17, "CodeActionParams")
abbrev pub range_asked : Data → Option Range
range_asked d = option_and_then range_of (get (codes "range") d)

-- the lines that are asked about: those that the range has a part of (LSP 3.17, "SemanticTokensRangeParams")
abbrev pub lines_asked : Data → Option (ℕ × ℕ)
lines_asked d = option_map lines_of (range_asked d)

-- the name of the result since which changes are asked for (LSP 3.17, "SemanticTokensDeltaParams")
abbrev pub name_asked : Data → Option (List ℕ)
name_asked d = text_at (codes "previousResultId") d

-- the position that is asked about (LSP 3.17, "TextDocumentPositionParams")
abbrev pub place_asked : Data → Option Position
place_asked d = position_at (codes "position") d

-- what names the nodes that are asked for besides those around a position
abbrev pub named_asked : Data → Data
named_asked d = unwrap_or (get (codes "open") d) null

-- the nodes that `lrls/nodes` asks for
abbrev pub nodes_asked : Data → Option Question
nodes_asked d = option_map (λ place. its_nodes place (named_asked d)) (place_asked d)

-- what `lrls/grammar` asks of the text that its parameters have
abbrev pub grammar_asked : Option (List ℕ) → Asked
grammar_asked (Some text) = a_grammar text
grammar_asked None = misfit

-- `asked_of method d`: what a request of this method with the parameters `d` asks; none where the method is not the editor's server's
abbrev pub asked_of : List ℕ → Data → Option Asked
asked_of method d =
    if bytes_eq method (codes "textDocument/semanticTokens/full") then Some (about_document (uri_at d) (Some its_colours)) else (
    if bytes_eq method (codes "textDocument/semanticTokens/full/delta")
    then Some (about_document (uri_at d) (option_map its_changes (name_asked d))) else (
    if bytes_eq method (codes "textDocument/semanticTokens/range")
    then Some (about_document (uri_at d) (option_map (λ l. its_lines l.0 l.1) (lines_asked d))) else (
    if bytes_eq method (codes "textDocument/documentSymbol") then Some (about_document (uri_at d) (Some its_outline)) else (
    if bytes_eq method (codes "textDocument/completion")
    then Some (about_document (uri_at d) (option_map its_offers (place_asked d))) else (
    if bytes_eq method (codes "textDocument/hover") then Some (about_document (uri_at d) (option_map its_hover (place_asked d))) else (
    if bytes_eq method (codes "textDocument/documentHighlight")
    then Some (about_document (uri_at d) (option_map its_brackets (place_asked d))) else (
    if bytes_eq method (codes "textDocument/codeAction")
    then Some (about_document (uri_at d) (option_map its_fixes (range_asked d))) else (
    if bytes_eq method (codes "lrls/tokens")
    then Some (about_document (uri_at d) (option_map (λ l. its_rows l.0 l.1) (lines_asked d))) else (
    if bytes_eq method (codes "lrls/nodes") then Some (about_document (uri_at d) (nodes_asked d)) else (
    if bytes_eq method (codes "lrls/grammar") then Some (grammar_asked (text_at (codes "text") d)) else
    None))))))))))

-- what a JSON value asks, by its method and parameters
abbrev pub asked_by : Data → Option Asked
asked_by d = option_and_then (λ method. asked_of method (params_at d)) (text_at (codes "method") d)

-- what a content asks; none where it is no JSON value, or its method is not the editor's server's
abbrev pub asked_in : List ℕ → Option Asked
asked_in content = option_and_then asked_by (value_of content)

-- a question of the code as a `Question`
abbrev pub question_view : Wish → Question
question_view wish.Colours = its_colours
question_view (wish.Changes previous) = its_changes (string_bytes previous)
question_view (wish.Lines first end) = its_lines first end
question_view wish.Outline = its_outline
question_view (wish.Offers position) = its_offers position
question_view (wish.Hover position) = its_hover position
question_view (wish.Brackets position) = its_brackets position
question_view (wish.Fixes range) = its_fixes range
question_view (wish.Rows first end) = its_rows first end
question_view (wish.Nodes position named) = its_nodes position (view named)

-- what a request of the code asks, as `Asked`
abbrev pub asked_view : Put → Asked
asked_view (put.About uri question) = about (string_bytes uri) (question_view question)
asked_view (put.Grammar text) = a_grammar (string_bytes text)
asked_view put.Misfit = misfit
