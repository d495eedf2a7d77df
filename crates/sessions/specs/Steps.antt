-- What the server does with a message (LSP 3.17, "Server lifecycle", "Text Document Synchronization"; JSON-RPC 2.0).
use Rattle.std.specs.Prelude.{◌≡◌, ℕ, ℤ, Bool, true, false, if◌then◌else◌, List, [], ◌∷◌, Option, Some, None}
use Rattle.std.specs.Str.{chars}
use Rattle.std.specs.FinMap.{empty, get, insert, remove}
use Rattle.rpc.specs.Unit.{Unit as Encoding}
use Rattle.readings.specs.Texts.{fits}
use Rattle.readings.specs.Grammars.{FileGrammar}
use Rattle.rpc.specs.Refusal.{Refusal}
use Rattle.rpc.specs.Refusal.TheVariants.{ParseError, InvalidRequest, MethodNotFound, InvalidParams, NotInitialized}
use Rattle.rpc.specs.Log.{Log}
use Rattle.rpc.specs.Log.TheVariants.{OpenMalformed, ChangeMalformed, CloseMalformed, ChangeNotOpen, CloseNotOpen}
use Rattle.rpc.specs.Log.TheVariants.{TooManyDocuments, Lost}
use Rattle.rpc.specs.Loss.TheVariants.{TooLarge, MalformedChange}
use Rattle.rpc.specs.Ids.{Ident}
use Rattle.rpc.specs.Messages.{Request, initialize, shutdown, about, stats, Notification, exit, open_text, change_text, close}
use Rattle.rpc.specs.Messages.{malformed}
use Rattle.rpc.specs.Messages.{Unfit, unfit_open, unfit_change, unfit_close, request, notification, ignored, invalid, unknown, params}
use Rattle.rpc.specs.Messages.{TextChange, Received, unread, refused, accepted}
use Rattle.rpc.specs.Replies.{Answer, capabilities_reply, null_reply, error_reply, published_diagnostics, log_message}
use Rattle.sessions.specs.Documents.{DocumentState, is_open, is_lost, Held, Becomes, has_room}
use Rattle.sessions.specs.Answers.{IsAnswer, IsCount, IsPublished}
use Rattle.sessions.specs.declared.phase.Phase.{Phase}
use Rattle.sessions.specs.declared.phase.Phase.TheVariants.{New, Ready, Down}

-- the grammar file of the session, its phase with the unit that positions count from `initialize` on, and its documents (LSP 3.17, "Server
-- lifecycle")
pub record State : Type 0 where
  pub file : FileGrammar
  pub phase : Phase
  pub documents : Held

-- the state before any message
abbrev pub first_state : FileGrammar → State
first_state file = record { file = file; phase = New; documents = empty }

-- ---- what a step leaves

-- the step leaves one reply, and nothing changes
abbrev pub Replies : State → Answer → List Answer → Option ℕ → State → Type 0
Replies old answer answers stop new = (answers ≡ answer ∷ []) × (stop ≡ None) × (new ≡ old)

-- `RepliesSome old Has answers stop new`: the step leaves one reply of which `Has` holds, and nothing changes
abbrev pub RepliesSome : State → (Answer → Type 0) → List Answer → Option ℕ → State → Type 0
RepliesSome old Has answers stop new = (answer : Answer) × Has answer × Replies old answer answers stop new

-- the step leaves one reply, and the phase changes
abbrev pub Enters : State → Phase → Answer → List Answer → Option ℕ → State → Type 0
Enters old phase answer answers stop new =
    (answers ≡ answer ∷ []) × (stop ≡ None) × (new ≡ record { file = old.file; phase = phase; documents = old.documents })

-- the step leaves no reply, and nothing changes
abbrev pub Ignores : State → List Answer → Option ℕ → State → Type 0
Ignores old answers stop new = (answers ≡ []) × (stop ≡ None) × (new ≡ old)

-- the step leaves one log message, and nothing changes
abbrev pub Logs : State → Log → List Answer → Option ℕ → State → Type 0
Logs old log answers stop new = Replies old (log_message log) answers stop new

-- the server goes on with these documents, in the same phase
abbrev pub Leaves : State → Held → Option ℕ → State → Type 0
Leaves old documents stop new = (stop ≡ None) × (new ≡ record { file = old.file; phase = old.phase; documents = documents })

-- `Holds old uri state answers stop new`: the document stands so from now on, and its diagnostics are published; where it is lost, an empty
-- list without version, and after it the log message of the loss
abbrev pub Holds : State → List ℕ → DocumentState → List Answer → Option ℕ → State → Type 0
Holds old uri (is_open d) answers stop new =
    (published : Answer) × IsPublished old.file uri d published × (answers ≡ published ∷ [])
    × Leaves old (insert old.documents uri (is_open d)) stop new
Holds old uri (is_lost loss) answers stop new =
    (answers ≡ published_diagnostics uri None None ∷ log_message (Lost loss) ∷ [])
    × Leaves old (insert old.documents uri (is_lost loss)) stop new

-- the document is forgotten, and an empty list of diagnostics is published
abbrev pub Forgets : State → List ℕ → List Answer → Option ℕ → State → Type 0
Forgets old uri answers stop new =
    (answers ≡ published_diagnostics uri None None ∷ []) × Leaves old (remove old.documents uri) stop new

-- the step leaves no reply, and the server stops with this status
abbrev pub Stops : State → ℕ → List Answer → Option ℕ → State → Type 0
Stops old status answers stop new = (answers ≡ []) × (stop ≡ Some status) × (new ≡ old)

-- ---- requests

-- `OnRequest phase old id request answers stop new`: the step on a request, in each phase
abbrev pub OnRequest : Phase → State → Ident → Request → List Answer → Option ℕ → State → Type 0
OnRequest New old id (initialize unit) answers stop new = Enters old (Ready unit) (capabilities_reply id unit) answers stop new
OnRequest New old id _ answers stop new = Replies old (error_reply (Some id) NotInitialized) answers stop new
OnRequest (Ready unit) old id (initialize other) answers stop new = Replies old (error_reply (Some id) InvalidRequest) answers stop new
OnRequest (Ready unit) old id shutdown answers stop new = Enters old Down (null_reply id) answers stop new
OnRequest (Ready unit) old id (about uri question) answers stop new =
    RepliesSome old (IsAnswer old.file id (get old.documents uri) question) answers stop new
OnRequest (Ready unit) old id (stats uri) answers stop new =
    RepliesSome old (IsCount old.file id (get old.documents uri)) answers stop new
OnRequest Down old id _ answers stop new = Replies old (error_reply (Some id) InvalidRequest) answers stop new

-- ---- notifications

-- what comes of opening a text: an open document with this unit where it fits, and otherwise a lost one
abbrev pub new_document : Encoding → ℤ → List ℕ → DocumentState
new_document unit version text =
    if fits text then is_open (record { unit = unit; version = version; text = text; last = None }) else is_lost TooLarge

-- `Opens room old uri state answers stop new`: the step on `didOpen` in the ready phase: the document is held where there is room, and
-- otherwise it is logged that there are too many
abbrev pub Opens : Bool → State → List ℕ → DocumentState → List Answer → Option ℕ → State → Type 0
Opens true old uri state answers stop new = Holds old uri state answers stop new
Opens false old uri state answers stop new = Logs old TooManyDocuments answers stop new

-- `Changes held old uri version changes answers stop new`: the step on `didChange` in the ready phase, by what is held under the URI: an
-- open document is changed or lost, a lost one is left alone, and of one that isn't held it is logged that it isn't open
abbrev pub Changes : Option DocumentState → State → List ℕ → ℤ → List TextChange → List Answer → Option ℕ → State → Type 0
Changes None old uri version changes answers stop new = Logs old ChangeNotOpen answers stop new
Changes (Some (is_lost loss)) old uri version changes answers stop new = Ignores old answers stop new
Changes (Some (is_open d)) old uri version changes answers stop new =
    (state : DocumentState) × Becomes old.file version d changes state × Holds old uri state answers stop new

-- `Spoils held old uri answers stop new`: the step on a `didChange` with a URI whose other parameters don't fit: an open document is lost,
-- a lost one is left alone, and of one that isn't held it is logged that it isn't open
abbrev pub Spoils : Option DocumentState → State → List ℕ → List Answer → Option ℕ → State → Type 0
Spoils None old uri answers stop new = Logs old ChangeNotOpen answers stop new
Spoils (Some (is_lost loss)) old uri answers stop new = Ignores old answers stop new
Spoils (Some (is_open d)) old uri answers stop new = Holds old uri (is_lost MalformedChange) answers stop new

-- `Closes held old uri answers stop new`: the step on `didClose` in the ready phase: what is held is forgotten, and of what isn't held it
-- is logged that it isn't open
abbrev pub Closes : Option DocumentState → State → List ℕ → List Answer → Option ℕ → State → Type 0
Closes None old uri answers stop new = Logs old CloseNotOpen answers stop new
Closes (Some state) old uri answers stop new = Forgets old uri answers stop new

-- `OnMalformed old unfit answers stop new`: the step on a notification whose parameters don't fit, in the ready phase: it is logged; of a
-- change whose URI can be read, what `Spoils` has
abbrev pub OnMalformed : State → Unfit → List Answer → Option ℕ → State → Type 0
OnMalformed old unfit_open answers stop new = Logs old OpenMalformed answers stop new
OnMalformed old (unfit_change None) answers stop new = Logs old ChangeMalformed answers stop new
OnMalformed old (unfit_change (Some uri)) answers stop new = Spoils (get old.documents uri) old uri answers stop new
OnMalformed old unfit_close answers stop new = Logs old CloseMalformed answers stop new

-- `exit_status phase`: the status at `exit`: 0 after `shutdown`, and 1 in any other phase
abbrev pub exit_status : Phase → ℕ
exit_status New = 1
exit_status (Ready unit) = 1
exit_status Down = 0

-- `OnNotification phase old notification answers stop new`: the step on a notification, in each phase
abbrev pub OnNotification : Phase → State → Notification → List Answer → Option ℕ → State → Type 0
OnNotification phase old exit answers stop new = Stops old (exit_status phase) answers stop new
OnNotification (Ready unit) old (open_text uri version text) answers stop new =
    Opens (has_room uri old.documents) old uri (new_document unit version (chars text)) answers stop new
OnNotification (Ready unit) old (change_text uri version changes) answers stop new =
    Changes (get old.documents uri) old uri version changes answers stop new
OnNotification (Ready unit) old (close uri) answers stop new = Closes (get old.documents uri) old uri answers stop new
OnNotification (Ready unit) old (malformed unfit) answers stop new = OnMalformed old unfit answers stop new
OnNotification _ old _ answers stop new = Ignores old answers stop new

-- ---- steps

-- `unknown_in phase`: the refusal of an unknown method, by the phase
abbrev pub unknown_in : Phase → Refusal
unknown_in New = NotInitialized
unknown_in (Ready unit) = MethodNotFound
unknown_in Down = InvalidRequest

-- `params_in phase first`: the refusal of parameters that don't fit, those of `initialize` or others, by the phase
abbrev pub params_in : Phase → Bool → Refusal
params_in New true = InvalidParams
params_in New false = NotInitialized
params_in (Ready unit) true = InvalidRequest
params_in (Ready unit) false = InvalidParams
params_in Down first = InvalidRequest

-- `Step old received answers stop new`: from a state, on what was received, the server may give these answers, stop or not, and be in this
-- state: every phase with every message
abbrev pub Step : State → Received → List Answer → Option ℕ → State → Type 0
Step old unread answers stop new = Replies old (error_reply None ParseError) answers stop new
Step old (refused (invalid id)) answers stop new = Replies old (error_reply id InvalidRequest) answers stop new
Step old (refused (unknown id)) answers stop new = Replies old (error_reply (Some id) (unknown_in old.phase)) answers stop new
Step old (refused (params id first)) answers stop new = Replies old (error_reply (Some id) (params_in old.phase first)) answers stop new
Step old (accepted (request id call)) answers stop new = OnRequest old.phase old id call answers stop new
Step old (accepted (notification note)) answers stop new = OnNotification old.phase old note answers stop new
Step old (accepted ignored) answers stop new = Ignores old answers stop new

-- `StepOn received old answers stop new`: something was received, and the server makes this `Step` on it
abbrev pub StepOn : Option Received → State → List Answer → Option ℕ → State → Type 0
StepOn None old answers stop new = ⊥
StepOn (Some received) old answers stop new = Step old received answers stop new
