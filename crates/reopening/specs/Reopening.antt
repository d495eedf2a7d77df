-- A core in the place of another one, with its documents.
use Rattle.std.specs.Prelude.{◌≡◌, ℕ, All, List, [], ◌∷◌, ◌++◌, encode_utf8_all, Option, Some}
use Rattle.std.specs.FinMap.{empty, get}
use Rattle.readings.specs.Grammars.{FileGrammar}
use Rattle.readings.specs.Texts.{OpenDocument}
use Rattle.replies.specs.Replies.{Answer}
use Rattle.rpc.specs.Messages.{Received, accepted, notification, open_text}
use Rattle.rpc.specs.Unit.{Unit as Encoding}
use Rattle.sessions.specs.Documents.{Held, is_open}
use Rattle.sessions.specs.Steps.{State, Step}
use Rattle.sessions.specs.declared.phase.Phase.TheVariants.{Ready}

-- `opening uri d`: the message that opens a document as it is
abbrev pub opening : List ℕ → OpenDocument → Received
opening uri d = accepted (notification (open_text uri d.version (encode_utf8_all d.text)))

-- `IsOpening documents r`: the message opens a document that is open, as it is
abbrev pub IsOpening : Held → Received → Type 0
IsOpening documents r = (uri : List ℕ) × (d : OpenDocument) × (get documents uri ≡ Some (is_open d)) × (r ≡ opening uri d)

-- `ready_state file unit`: the core is initialized, and nothing else has come
abbrev pub ready_state : FileGrammar → Encoding → State
ready_state file unit = record { file = file; phase = Ready unit; documents = empty }

-- `Steps old received answers new`: the core's steps on these messages in turn, and all their answers; that one could stop it isn't looked
-- at, since no opening does
abbrev pub Steps : State → List Received → List Answer → State → Type 0
Steps old [] answers new = (answers ≡ []) × (new ≡ old)
Steps old (r ∷ received) answers new =
    (first rest : List Answer) × (stop : Option ℕ) × (mid : State) × Step old r first stop mid × Steps mid received rest new
    × (answers ≡ first ++ rest)

-- `Reopens old unit file answers new`: a core of this grammar file takes the place of the old one: it is initialized with the same unit,
-- and documents that are open are opened in it, as they are; these are its answers to that
abbrev pub Reopens : State → Encoding → FileGrammar → List Answer → State → Type 0
Reopens old unit file answers new =
    (received : List Received) × All (IsOpening old.documents) received × Steps (ready_state file unit) received answers new
