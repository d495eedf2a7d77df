-- What is answered to a question about a document, and what is published of it.
use Rattle.std.specs.Prelude.{◌≡◌, ℕ, List, Option, Some, None, option_map, encode_utf8_all}
use Rattle.rpc.specs.Range.{Range}
use Rattle.rpc.specs.Stats.{Stats}
use Rattle.readings.specs.Answers.{Diagnostic, Reads, rows, written_tree, AreSelections}
use Rattle.readings.specs.Edits.{AreStats, without_nodes}
use Rattle.readings.specs.Texts.{OpenDocument}
use Rattle.readings.specs.Grammars.{FileGrammar}
use Rattle.rpc.specs.Refusal.TheVariants.{DocumentNotOpen, DocumentLost}
use Rattle.rpc.specs.Ids.{Ident}
use Rattle.rpc.specs.Messages.{Question, its_text, its_tokens, its_tree, its_folds, its_selections}
use Rattle.rpc.specs.Replies.{Answer, null_reply, text_reply, tokens_reply, tree_reply, stats_reply, folds_reply, selections_reply}
use Rattle.rpc.specs.Replies.{error_reply}
use Rattle.rpc.specs.Replies.{published_diagnostics}
use Rattle.readings.specs.Contents.{AreFoldsOf}
use Rattle.readings.specs.Diagnostics.{IsDiagnosis}
use Rattle.sessions.specs.Documents.{DocumentState, is_open, is_lost}

-- `tree_answer id text`: the reply with the text of a tree, or that there is none
abbrev pub tree_answer : Ident → Option (List ℕ) → Answer
tree_answer id None = null_reply id
tree_answer id (Some text) = tree_reply id text

-- `IsAnswerOf file id d question answer`: what is answered of an open document, by its unit, version and text alone, by the reading of its
-- text: its version and text, the rows of its tokens, its tree, its folds, or what can be selected in it
abbrev pub IsAnswerOf : FileGrammar → Ident → OpenDocument → Question → Answer → Type 0
IsAnswerOf file id d its_text answer = answer ≡ text_reply id d.version (encode_utf8_all d.text)
IsAnswerOf file id d its_tokens answer = Reads file d.text (λ reading. answer ≡ tokens_reply id (rows d.unit file d.text reading.tokens))
IsAnswerOf file id d its_tree answer = Reads file d.text (λ reading. answer ≡ tree_answer id (written_tree file reading.verdict))
IsAnswerOf file id d its_folds answer = Reads file d.text (λ reading.
    (pairs : List (ℕ × ℕ)) × AreFoldsOf file d.text reading.tokens reading.trees pairs × (answer ≡ folds_reply id pairs))
IsAnswerOf file id d (its_selections positions) answer = Reads file d.text (λ reading.
    (selections : List (List Range)) × AreSelections d.unit file d.text reading positions selections
    × (answer ≡ selections_reply id selections))

-- `IsAnswer file id document question answer`: what is answered to a question about a document: that it isn't open; or why it is lost; or,
-- where it is open, what `IsAnswerOf` has
abbrev pub IsAnswer : FileGrammar → Ident → Option DocumentState → Question → Answer → Type 0
IsAnswer file id None question answer = answer ≡ error_reply (Some id) DocumentNotOpen
IsAnswer file id (Some (is_lost loss)) question answer = answer ≡ error_reply (Some id) (DocumentLost loss)
IsAnswer file id (Some (is_open d)) question answer = IsAnswerOf file id d question answer

-- `IsCount file id document answer`: what is answered to `lr/stats`: that the document isn't open; or why it is lost; or its counts
-- (`AreStats`)
abbrev pub IsCount : FileGrammar → Ident → Option DocumentState → Answer → Type 0
IsCount file id None answer = answer ≡ error_reply (Some id) DocumentNotOpen
IsCount file id (Some (is_lost loss)) answer = answer ≡ error_reply (Some id) (DocumentLost loss)
IsCount file id (Some (is_open d)) answer = (stats : Stats) × AreStats file d stats × (answer ≡ stats_reply id stats)

-- `but_nodes answer`: an answer without the number of nodes in memory, which is left free
abbrev pub but_nodes : Answer → Answer
but_nodes (stats_reply id stats) = stats_reply id (without_nodes stats)
but_nodes answer = answer

-- a diagnostic's range, and its message in UTF-8
abbrev pub shown : Diagnostic → Range × List ℕ
shown d = (d.range, encode_utf8_all d.message)

-- `IsPublished file uri document answer`: the diagnostics of a document under its URI, with its version, by the reading of its text
abbrev pub IsPublished : FileGrammar → List ℕ → OpenDocument → Answer → Type 0
IsPublished file uri d answer =
    Reads file d.text (λ reading. (fault : Option Diagnostic) × IsDiagnosis d.unit file d.text reading.tokens reading.verdict fault
    × (answer ≡ published_diagnostics uri (Some d.version) (option_map shown fault)))
