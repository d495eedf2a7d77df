-- What is sent about a document depends on what is received about it: the messages that name it, the phase at each, the room for it where
-- it is opened, and whether memory was refused in its changes.
use Rattle.std.specs.Prelude.{◌≡◌, ◌≢◌, ◌⊎◌, ℕ, Bool, true, false, ◌||◌, List, [], ◌∷◌, ◌++◌, map, filter, All, Option, Some, None}
use Rattle.std.specs.Prelude.{MatchOption}
use Rattle.std.specs.FinMap.{get}
use Rattle.readings.specs.Grammars.{FileGrammar}
use Rattle.rpc.specs.Loss.TheVariants.{Memory}
use Rattle.rpc.specs.Messages.{request, about, stats, notification, open_text, change_text, close, malformed, unfit_change, Received}
use Rattle.rpc.specs.Messages.{accepted, initialize, shutdown, exit}
use Rattle.rpc.specs.Reading.{received_in, is_text}
use Rattle.rpc.specs.Replies.{Answer}
use Rattle.sessions.specs.Answers.{but_nodes}
use Rattle.sessions.specs.Documents.{DocumentState, is_open, is_lost, has_room}
use Rattle.sessions.specs.Fresh.{Publishes}
use Rattle.sessions.specs.Runs.{Run}
use Rattle.sessions.specs.Steps.{State, first_state, Ignores, Step}
use Rattle.sessions.specs.declared.phase.Phase.{Phase}

-- `named received`: the URI of the document that a message names, if it names one; a message whose parameters don't fit names none, but for
-- a change whose URI can be read
abbrev pub named : Received → Option (List ℕ)
named (accepted (request id (about uri question))) = Some uri
named (accepted (request id (stats uri))) = Some uri
named (accepted (notification (open_text uri version text))) = Some uri
named (accepted (notification (change_text uri version changes))) = Some uri
named (accepted (notification (close uri))) = Some uri
named (accepted (notification (malformed (unfit_change (Some uri))))) = Some uri
named _ = None

-- `finds_room uri state received`: there is room for the document that the message opens; a message that opens none asks for no room
abbrev pub finds_room : List ℕ → State → Received → Bool
finds_room uri state (accepted (notification (open_text other version text))) = has_room uri state.documents
finds_room uri state _ = true

-- `loses old new`: what is held was an open document, and is lost because memory was refused
abbrev pub loses : Option DocumentState → Option DocumentState → Bool
loses (Some (is_open d)) (Some (is_lost Memory)) = true
loses _ _ = false

-- between two states, the document under the URI is lost because memory was refused
abbrev pub loses_memory : List ℕ → State → State → Bool
loses_memory uri old new = loses (get old.documents uri) (get new.documents uri)

-- two states are of one file and in one phase, hold the same under the URI, and both have room for the document or not, where the message
-- opens it
pub record AreAlikeFor (uri : List ℕ) (received : Received) (one two : State) : Type 0 where
  pub file : two.file ≡ one.file
  pub phase : two.phase ≡ one.phase
  pub held : get two.documents uri ≡ get one.documents uri
  pub room : finds_room uri two received ≡ finds_room uri one received

-- two lists of answers are the same but for the number of nodes in memory
abbrev pub SendTheSame : List Answer → List Answer → Type 0
SendTheSame answers others = map but_nodes others ≡ map but_nodes answers

-- `SameFor uri answers others stop other_stop new other`: two steps send the same (`SendTheSame`), stop alike, and leave the same under the
-- URI
pub record SameFor (uri : List ℕ) (answers other_answers : List Answer) (stop other_stop : Option ℕ) (new other : State) : Type 0 where
  pub sent : SendTheSame answers other_answers
  pub stops : other_stop ≡ stop
  pub held : get other.documents uri ≡ get new.documents uri

-- a message that does not name a document leaves it as it was and sends no diagnostics of it; one that names it sends the same, and makes
-- the same of the document, in states that look alike for it, where memory is refused in both or in neither; but for the number of nodes in
-- memory that `lr/stats` reports
abbrev pub EachDocumentIsAlone : FileGrammar → Type 0
EachDocumentIsAlone file =
    (uri : List ℕ) (received : Received) (old : State) (answers : List Answer) (stop : Option ℕ) (new : State)
    → old.file ≡ file → Step old received answers stop new
    → (named received ≢ Some uri → (get new.documents uri ≡ get old.documents uri) × All (λ a. ¬ Publishes uri a) answers)
    × (named received ≡ Some uri → (two : State) (other_answers : List Answer) (other_stop : Option ℕ) (other : State)
    → AreAlikeFor uri received old two → Step two received other_answers other_stop other
    → loses_memory uri two other ≡ loses_memory uri old new
    → SameFor uri answers other_answers stop other_stop new other)

-- a message, the phase in which it is received, whether there is room for the document that it opens, and whether memory is refused in its
-- changes
pub record Event : Type 0 where
  pub phase : Phase
  pub room : Bool
  pub received : Received
  pub refused : Bool

-- the `Event` of a step from `old` to `new`, for the document
abbrev pub event_in : List ℕ → State → Received → State → Event
event_in uri old received new =
    record { phase = old.phase; room = finds_room uri old received; received = received; refused = loses_memory uri old new }

-- what is noted of one message before what comes after it: the message, and all that is sent on it, where it names the document; otherwise
-- nothing
abbrev pub Notes : List ℕ → State → Received → List Answer → State → List Event → List Answer → List Event → List Answer → Type 0
Notes uri old received first new events sent more rest =
    ((named received ≡ Some uri) × (events ≡ event_in uri old received new ∷ more) × (sent ≡ first ++ rest))
    ⊎ ((named received ≢ Some uri) × (events ≡ more) × (sent ≡ rest))

-- `History uri old contents answers stop new events sent`: a `Run`, with what it receives about the document, and what it sends then
abbrev pub History : List ℕ → State → List (List ℕ) → List Answer → Option ℕ → State → List Event → List Answer → Type 0
History uri old [] answers stop new events sent = Ignores old answers stop new × (events ≡ []) × (sent ≡ [])
History uri old (content ∷ contents) answers stop new events sent =
    (first : List Answer) × (halt : Option ℕ) × (mid : State) × (more : List Event) × (rest : List Answer)
    × Step old (received_in content) first halt mid × Notes uri old (received_in content) first mid events sent more rest
    × MatchOption halt
    ((later : List Answer) × (answers ≡ first ++ later) × History uri mid contents later stop new more rest)
    (λ status. (answers ≡ first) × (stop ≡ Some status) × (new ≡ mid) × (more ≡ []) × (rest ≡ []))

-- for each run and each document there is such a `History`
abbrev pub EachRunHasAHistory : Type 0
EachRunHasAHistory =
    (uri : List ℕ) (old : State) (contents : List (List ℕ)) (answers : List Answer) (stop : Option ℕ) (new : State)
    → Run old contents answers stop new
    → (events : List Event) × (sent : List Answer) × History uri old contents answers stop new events sent

-- two sessions that receive the same about a document send the same of it, but for the numbers of nodes in memory
abbrev pub HistoriesDecide : FileGrammar → Type 0
HistoriesDecide file =
    (uri : List ℕ) (contents others : List (List ℕ)) (answers other_answers : List Answer) (stop other_stop : Option ℕ)
    (new other : State) (events : List Event) (sent other_sent : List Answer)
    → History uri (first_state file) contents answers stop new events sent
    → History uri (first_state file) others other_answers other_stop other events other_sent
    → SendTheSame sent other_sent

-- ---- the messages that concern no other document

-- whether a message may change the phase or end the session: `initialize`, `shutdown` and `exit` (LSP 3.17, "Server lifecycle")
abbrev pub is_lifecycle : Received → Bool
is_lifecycle (accepted (request id (initialize unit))) = true
is_lifecycle (accepted (request id shutdown)) = true
is_lifecycle (accepted (notification exit)) = true
is_lifecycle _ = false

-- `concerns uri received`: the message names the document of the URI, or is one of `is_lifecycle`
abbrev pub concerns : List ℕ → Received → Bool
concerns uri received = is_lifecycle received || is_text uri (named received)

-- `concerning uri contents`: these contents without those that name another document, or none, but for those of `is_lifecycle`
abbrev pub concerning : List ℕ → List (List ℕ) → List (List ℕ)
concerning uri contents = filter (λ content. concerns uri (received_in content)) contents

-- where all messages that name another document, or none, are left out, but for those of `is_lifecycle`, the same is sent about the
-- document (`SendTheSame`), and the session stops alike; if there was room for the document wherever it was opened, and memory is refused
-- in both within the same of its changes
abbrev pub OthersCanBeLeftOut : FileGrammar → Type 0
OthersCanBeLeftOut file =
    (uri : List ℕ) (contents : List (List ℕ)) (answers other_answers : List Answer) (stop other_stop : Option ℕ) (new other : State)
    (events other_events : List Event) (sent other_sent : List Answer)
    → History uri (first_state file) contents answers stop new events sent
    → History uri (first_state file) (concerning uri contents) other_answers other_stop other other_events other_sent
    → All (λ e. e.room ≡ true) events → map (λ e. e.refused) other_events ≡ map (λ e. e.refused) events
    → SendTheSame sent other_sent × (other_stop ≡ stop)
