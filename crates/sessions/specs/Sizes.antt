-- When a document is lost for its size.
use Rattle.std.specs.Prelude.{◌≡◌, ◌⊎◌, ◌↔◌, ◌<◌, ℕ, ℤ, Bool, true, false, ◌||◌, nat_lt, List, [], ◌∷◌, length, Option, Some, None}
use Rattle.std.specs.Prelude.{encode_utf8_all}
use Rattle.std.specs.FinMap.{get}
use Rattle.std.specs.Str.{chars}
use Rattle.readings.specs.Text.{changed}
use Rattle.readings.specs.Grammars.{FileGrammar}
use Rattle.readings.specs.Texts.{OpenDocument}
use Rattle.rpc.specs.Loss.TheVariants.{TooLarge, Memory}
use Rattle.rpc.specs.Messages.{TextChange, accepted, notification, open_text, change_text}
use Rattle.rpc.specs.Reading.{received_in}
use Rattle.rpc.specs.Replies.{Answer}
use Rattle.rpc.specs.Unit.{Unit as Encoding}
use Rattle.sessions.specs.Documents.{is_open, is_lost, has_room}
use Rattle.sessions.specs.Runs.{Run}
use Rattle.sessions.specs.Steps.{State, first_state, Step}
use Rattle.sessions.specs.declared.phase.Phase.TheVariants.{Ready}

-- whether a text has more than 1,048,576 bytes of UTF-8
abbrev pub is_large : List ℕ → Bool
is_large text = nat_lt 1_048_576 (length (encode_utf8_all text))

-- `outgrows encoding text changes`: whether a text `is_large` that a change makes, each change of the text that the one before it made
abbrev pub outgrows : Encoding → List ℕ → List TextChange → Bool
outgrows encoding text [] = false
outgrows encoding text (c ∷ cs) =
    is_large (changed encoding text c.range (chars c.text)) || outgrows encoding (changed encoding text c.range (chars c.text)) cs

-- whatever was read before: a document that is opened, and for which there is room, is lost as too large exactly where its text has more
-- than 1,048,576 bytes; an open one that is changed exactly where a text on the way has so many (`outgrows`), unless it is lost because
-- memory was refused
abbrev pub TooLargeIsExact : FileGrammar → Type 0
TooLargeIsExact file =
    (contents : List (List ℕ)) (sent : List Answer) (old : State) (unit : Encoding) (content : List ℕ) (uri : List ℕ) (version : ℤ)
    (answers : List Answer) (stop : Option ℕ) (new : State)
    → Run (first_state file) contents sent None old → old.phase ≡ Ready unit → Step old (received_in content) answers stop new
    → ((text : List ℕ) → received_in content ≡ accepted (notification (open_text uri version text))
    → has_room uri old.documents ≡ true → (get new.documents uri ≡ Some (is_lost TooLarge)) ↔ (1_048_576 < length text))
    × ((changes : List TextChange) (document : OpenDocument)
    → received_in content ≡ accepted (notification (change_text uri version changes)) → get old.documents uri ≡ Some (is_open document)
    → (get new.documents uri ≡ Some (is_lost Memory))
    ⊎ ((get new.documents uri ≡ Some (is_lost TooLarge)) ↔ (outgrows document.unit document.text changes ≡ true)))
