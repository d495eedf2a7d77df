-- What the editor's server does with a content.
use Rattle.std.specs.Prelude.{◌≡◌, ◌⊎◌, ℕ, List, [], ◌∷◌, Option, Some, None, MatchOption}
use Rattle.replies.specs.Ids.{Ident}
use Rattle.replies.specs.Replies.{Answer}
use Rattle.rpc.specs.Messages.{Received}
use Rattle.rpc.specs.Reading.{received_in}
use Rattle.sessions.specs.Steps.{Step}
use Rattle.questions.specs.Asked.{Asked}
use Rattle.questions.specs.Cancels.{IsCancelled, question_id}
use Rattle.questions.specs.Own.{own_in}
use Rattle.editor_replies.specs.Sent.{Message, cancelled}
use Rattle.shown.specs.Shown.{AreShown}
use Rattle.own_replies.specs.Replies.{IsReply}
use Rattle.own_replies.specs.States.{IdeState}

-- `AnswersItself old asked messages stop new`: a request of the editor's server gets one reply, with its id, and the core stays as
-- it was
abbrev pub AnswersItself : IdeState → Ident × Asked → List Message → Option ℕ → IdeState → Type 0
AnswersItself old asked messages stop new =
    (message : Message) × IsReply old asked.0 asked.1 message new × (messages ≡ message ∷ []) × (stop ≡ None)

-- `LeavesOff old content later messages stop new`: a question that the editor has cancelled before it is begun is answered so
abbrev pub LeavesOff : IdeState → List ℕ → List (Option Ident) → List Message → Option ℕ → IdeState → Type 0
LeavesOff old content later messages stop new =
    (id : Ident) × (question_id old.core.phase (received_in content) ≡ Some id) × IsCancelled id later × (messages ≡ cancelled id ∷ [])
    × (stop ≡ None) × (new ≡ old)

-- `StepsAsShown old received messages stop new`: a step of the core on what a content is read as, whose answers are sent as they are shown
abbrev pub StepsAsShown : IdeState → Received → List Message → Option ℕ → IdeState → Type 0
StepsAsShown old received messages stop new =
    (answers : List Answer) × Step old.core received answers stop new.core × AreShown old.shown answers messages
    × (new ≡ record { core = new.core; shown = old.shown; number = old.number; told = old.told })

-- `Answers old content messages stop new`: a request of the editor's server is answered by it; all else is a step of the core
abbrev pub Answers : IdeState → List ℕ → List Message → Option ℕ → IdeState → Type 0
Answers old content messages stop new =
    MatchOption (own_in old.core.phase content)
    (StepsAsShown old (received_in content) messages stop new)
    (λ asked. AnswersItself old asked messages stop new)

-- `StepOnContent old content later messages stop new`: what comes of a content, where of the contents that were read after it each cancels
-- the request with its id in `later`, if any
abbrev pub StepOnContent : IdeState → List ℕ → List (Option Ident) → List Message → Option ℕ → IdeState → Type 0
StepOnContent old content later messages stop new =
    LeavesOff old content later messages stop new ⊎ Answers old content messages stop new
