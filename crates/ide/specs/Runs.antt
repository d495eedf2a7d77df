-- Runs of the editor's server over the contents of frames, and of the core within it.
use Rattle.std.specs.Prelude.{◌≡◌, ℕ, ◌⊎◌, List, [], ◌∷◌, ◌++◌, map, Option, Some, None, IsSome, MatchOption}
use Rattle.replies.specs.Ids.{Ident}
use Rattle.rpc.specs.Reading.{received_in}
use Rattle.rpc.specs.Unit.{Unit as Encoding}
use Rattle.sessions.specs.Runs.{Run}
use Rattle.sessions.specs.declared.phase.Phase.TheVariants.{Ready}
use Rattle.questions.specs.Asked.{asked_in}
use Rattle.questions.specs.Cancels.{IsCancelled, cancels, question_id}
use Rattle.editor_replies.specs.Sent.{Message, core_answers}
use Rattle.ide.specs.Steps.{StepOnContent}
use Rattle.own_replies.specs.States.{IdeState}
use Rattle.ide.specs.Written.{AfterLook, Language}

-- what happens to the editor's server: the content of a frame comes; or a look at the files of its language finds that they were written,
-- or nothing new
pub data Event : Type 0 where
  comes : List ℕ → Event
  looks : Option Language → Event

-- the contents that come, in order
abbrev pub contents_of : List Event → List (List ℕ)
contents_of [] = []
contents_of (comes content ∷ events) = content ∷ contents_of events
contents_of (looks written ∷ events) = contents_of events

-- `Serves old events later messages stop new`: steps on events in turn, up to the first that stops the server, where more contents were
-- read that cancel the requests in `later`
abbrev pub Serves : IdeState → List Event → List (Option Ident) → List Message → Option ℕ → IdeState → Type 0
Serves old [] later messages stop new = (messages ≡ []) × (stop ≡ None) × (new ≡ old)
Serves old (comes content ∷ events) later messages stop new =
    (first : List Message) × (halt : Option ℕ) × (mid : IdeState)
    × StepOnContent old content (cancels (contents_of events) ++ later) first halt mid
    × MatchOption halt
    ((rest : List Message) × (messages ≡ first ++ rest) × Serves mid events later rest stop new)
    (λ status. (messages ≡ first) × (stop ≡ Some status) × (new ≡ mid))
Serves old (looks written ∷ events) later messages stop new =
    (first rest : List Message) × (mid : IdeState) × AfterLook old.core.phase old written first mid × (messages ≡ first ++ rest)
    × Serves mid events later rest stop new

-- `IsLeftOff content later`: a question that the editor has cancelled
abbrev pub IsLeftOff : List ℕ → List (Option Ident) → Type 0
IsLeftOff content later =
    (unit : Encoding) × (id : Ident) × (question_id (Ready unit) (received_in content) ≡ Some id) × IsCancelled id later

-- `LeavesOut contents later others`: these are the contents, but for some that ask what the editor's server answers, and some questions
-- that the editor has cancelled
abbrev pub LeavesOut : List (List ℕ) → List (Option Ident) → List (List ℕ) → Type 0
LeavesOut [] later others = others ≡ []
LeavesOut (content ∷ contents) later others =
    (IsSome (asked_in content) ⊎ IsLeftOff content (cancels contents ++ later)) × LeavesOut contents later others
    ⊎ ((rest : List (List ℕ)) × (others ≡ content ∷ rest) × LeavesOut contents later rest)

-- a run of the editor's server, from one writing of its files to the next, has a run of the core in it: over the contents but for some that
-- the editor's server answered itself, what is sent but for what the editor's server adds are the answers of the core, to the same end
abbrev pub EachRunIsTheCores : Type 0
EachRunIsTheCores = (old new : IdeState) (contents : List (List ℕ)) (later : List (Option Ident)) (messages : List Message)
    → (stop : Option ℕ) → Serves old (map comes contents) later messages stop new
    → (others : List (List ℕ)) × LeavesOut contents later others × Run old.core others (core_answers messages) stop new.core
