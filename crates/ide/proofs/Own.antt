-- What comes of a content, by what it is read as and what it asks.
use Rattle.ide.proofs.Std.{◌≡◌, ℕ, List, [], ◌∷◌, refl, ap, sym, subst, ◌∙◌, inl, inr, Option, Some, None, MatchOption}
use Rattle.ide.proofs.Common.{Ident, Message, received_in, asked_in, own_in, own_of, question_id, AnswersItself, StepOnContent, StepsAsShown, IdeState, AreShown}
use Rattle.std.specs.Prelude.{IfSome, option_and_then}
use Rattle.replies.specs.Replies.{Answer}
use Rattle.rpc.specs.Messages.{Received}
use Rattle.rpc.specs.Reading.{Receives}
use Rattle.sessions.specs.Steps.{StepOn}
use Rattle.editor_replies.specs.Sent.{cancelled}
use Rattle.questions.specs.Asked.{Asked}
use Rattle.questions.specs.Cancels.{IsCancelled}

-- what a content asks of the editor's server, where it is read as this
abbrev own_read : IdeState → List ℕ → Option Received → Option (Ident × Asked)
own_read old content read = option_and_then (λ r. own_of old.core.phase r (asked_in content)) read

-- a request that is answered here
pub answered : (old : IdeState) (content : List ℕ) (later : List (Option Ident)) (read : Option Received) (own : Ident × Asked) (messages : List Message)
    (stop : Option ℕ) (new : IdeState) → IfSome read (Receives content) → Some own ≡ own_read old content read → AnswersItself old own messages stop new
    → StepOnContent old content later messages stop new
answered old content later None own messages stop new receives is answers = absurd (let f : ⊥ = cc in f)
answered old content later (Some r) own messages stop new receives is answers =
    let it : own_in old.core.phase content ≡ Some own = ap (λ x. own_of old.core.phase x (asked_in content)) (sym receives) ∙ sym is in
    inr (subst (λ o. MatchOption o (StepsAsShown old (received_in content) messages stop new) (λ a. AnswersItself old a messages stop new)) (sym it) answers)

-- a question that is cancelled
pub left_off : (old : IdeState) (content : List ℕ) (later : List (Option Ident)) (read : Option Received) (id : Ident) (messages : List Message) (stop : Option ℕ)
    (new : IdeState) → IfSome read (Receives content) → Some id ≡ option_and_then (question_id old.core.phase) read → IsCancelled id later
    → messages ≡ cancelled id ∷ [] → stop ≡ None → new ≡ old → StepOnContent old content later messages stop new
left_off old content later None id messages stop new receives is hit one halt same = absurd (let f : ⊥ = cc in f)
left_off old content later (Some r) id messages stop new receives is hit one halt same =
    inl (id, ap (question_id old.core.phase) (sym receives) ∙ sym is, hit, one, halt, same)

-- a step of the core on what was read, whose answers are sent as they are shown; `mid` is the state right after it
pub core_stepped : (read : Option Received) (old mid new : IdeState) (answers : List Answer) (messages : List Message) (stop : Option ℕ)
    → StepOn read old.core answers stop mid.core → mid ≡ record { core = mid.core; shown = old.shown; number = old.number; told = old.told } → new ≡ mid
    → AreShown new.shown answers messages → (received : Received) × (read ≡ Some received) × StepsAsShown old received messages stop new
core_stepped None old mid new answers messages stop step at same are = absurd step
core_stepped (Some received) old mid new answers messages stop step at same are =
    let shown : AreShown old.shown answers messages = subst (λ s. AreShown s answers messages) (ap (λ (s : IdeState). s.shown) (same ∙ at)) are in
    (received, refl, subst (λ (s : IdeState). StepsAsShown old received messages stop s) (sym same) (answers, step, shown, at))
