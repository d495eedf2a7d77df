-- Every answer is a fresh server's.
use Rattle.std.specs.Prelude.{◌≡◌, ◌≢◌, ◌⊎◌, ℕ, ℤ, List, [], ◌∷◌, ◌++◌, All, Option, Some, None}
use Rattle.std.specs.Str.{chars}
use Rattle.std.specs.FinMap.{get}
use Rattle.rpc.specs.Unit.{Unit as Encoding}
use Rattle.readings.specs.Grammars.{FileGrammar}
use Rattle.rpc.specs.Ids.{Ident}
use Rattle.rpc.specs.Messages.{initialize, Question, about, open_text, change_text, request, notification, accepted, TextChange}
use Rattle.rpc.specs.Messages.{Received}
use Rattle.rpc.specs.Replies.{Answer, capabilities_reply, published_diagnostics}
use Rattle.readings.specs.Texts.{LastEdit, OpenDocument}
use Rattle.rpc.specs.Loss.TheVariants.{Memory}
use Rattle.sessions.specs.Documents.{is_open, is_lost, edited}
use Rattle.sessions.specs.declared.phase.Phase.TheVariants.{Ready}
use Rattle.sessions.specs.Steps.{State, first_state, Replies, Step}
use Rattle.sessions.specs.Runs.{Run}

-- the state of a server that was just initialized with this unit and then opened this text, and the diagnostics that it published
pub record IsFresh (file : FileGrammar) (unit : Encoding) (uri : List ℕ) (version : ℤ) (text : List ℕ) (published : Answer)
    (state : State) : Type 0 where
  pub id : Ident
  pub bytes : List ℕ
  pub mid : State
  pub spelled : chars bytes ≡ text
  pub initializes : Step (first_state file) (accepted (request id (initialize unit))) (capabilities_reply id unit ∷ []) None mid
  pub opens : Step mid (accepted (notification (open_text uri version bytes))) (published ∷ []) None state

-- on what was received there is one reply, this one, and nothing changes
pub record RepliesOnly (state : State) (received : Received) (answer : Answer) : Type 0 where
  pub replies : Step state received (answer ∷ []) None state
  pub only : (answers : List Answer) (stop : Option ℕ) (new : State) → Step state received answers stop new
      → Replies state answer answers stop new

-- to each question about the document both have one answer, the same
abbrev pub AnswerAlike : List ℕ → State → State → Type 0
AnswerAlike uri one other = (id : Ident) (question : Question) →
    let received = accepted (request id (about uri question)) in
    (answer : Answer) × RepliesOnly one received answer × RepliesOnly other received answer

-- `Publishes uri answer`: the answer publishes diagnostics of the URI
abbrev pub Publishes : List ℕ → Answer → Type 0
Publishes uri (published_diagnostics other version fault) = other ≡ uri
Publishes uri _ = ⊥

-- of these answers this one is the last that `Publishes` diagnostics of the URI
abbrev pub IsLastPublished : List ℕ → List Answer → Answer → Type 0
IsLastPublished uri answers published =
    (before after : List Answer) × (answers ≡ before ++ published ∷ after) × Publishes uri published
    × All (λ a. ¬ Publishes uri a) after

-- whatever was read before: there is a fresh server with the unit of the session and the version and the text of an open document, and to
-- each question about the document each fresh server and the one at hand have one answer, the same; and the diagnostics that the fresh one
-- published are the last that the one at hand published for the document
abbrev pub EveryAnswerIsFresh : FileGrammar → Type 0
EveryAnswerIsFresh file =
    (contents : List (List ℕ)) (answers : List Answer) (state : State) (unit : Encoding) (uri : List ℕ) (document : OpenDocument)
    → Run (first_state file) contents answers None state → state.phase ≡ Ready unit → get state.documents uri ≡ Some (is_open document)
    → ((fresh : State) × (published : Answer) × IsFresh file unit uri document.version document.text published fresh)
    × ((fresh : State) (published : Answer) → IsFresh file unit uri document.version document.text published fresh
    → AnswerAlike uri state fresh × IsLastPublished uri answers published)

-- where all texts on the way fit, a document's text after a change is its text before, edited by the changes in turn (`edited`), unless the
-- document is lost because memory was refused; no other document changes
abbrev pub EachTextIsItsEdits : Type 0
EachTextIsItsEdits =
    (old new : State) (unit : Encoding) (uri : List ℕ) (version : ℤ) (changes : List TextChange) (document : OpenDocument) (text : List ℕ)
    (answers : List Answer) (stop : Option ℕ)
    → old.phase ≡ Ready unit → get old.documents uri ≡ Some (is_open document) → edited document.unit document.text changes ≡ Some text
    → Step old (accepted (notification (change_text uri version changes))) answers stop new
    → (((last : Option LastEdit)
    × (get new.documents uri ≡ Some (is_open (record { unit = document.unit; version = version; text = text; last = last }))))
    ⊎ (get new.documents uri ≡ Some (is_lost Memory)))
    × ((other : List ℕ) → other ≢ uri → get new.documents other ≡ get old.documents other)
