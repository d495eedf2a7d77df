-- What follows from the clauses of `run` besides `session`, for the contents of worked sessions.
use Rattle.std.specs.Prelude.{◌≡◌, ◌⊎◌, ℕ, ℤ, pos, List, [], ◌∷◌, ◌++◌, All, Option, Some, codes}
use Rattle.std.specs.FinMap.{get}
use Rattle.readings.specs.Grammars.{FileGrammar}
use Rattle.rpc.specs.Loss.TheVariants.{TooLarge, Memory}
use Rattle.rpc.specs.Messages.{Received, accepted, notification, open_text}
use Rattle.rpc.specs.Reading.{Receives, received_in}
use Rattle.rpc.specs.Replies.{Answer, capabilities_reply}
use Rattle.rpc.specs.Texts.{IsSpelled, texts_of}
use Rattle.rpc.specs.Unit.TheVariants.{Utf16}
use Rattle.sessions.specs.Alone.{EachDocumentIsAlone, EachRunHasAHistory, HistoriesDecide, OthersCanBeLeftOut, SendTheSame}
use Rattle.sessions.specs.Documents.{is_lost}
use Rattle.sessions.specs.Fresh.{AnswerAlike, EachTextIsItsEdits, EveryAnswerIsFresh, IsFresh, IsLastPublished, Publishes}
use Rattle.sessions.specs.Replies.{EachRequestIsAnswered, NoNotificationIsAnswered, NothingIsSentAfterExit, all_replied}
use Rattle.sessions.specs.Runs.{Run}
use Rattle.sessions.specs.Sizes.{TooLargeIsExact}
use Rattle.sessions.specs.Steps.{State, Step, first_state, exit_status}
use Rattle.session_rows.specs.Contents.{uri, of, initializes, opens, opens_other, types, asks, shuts_down, exits}

-- the clauses of `run` that speak of all sessions of a grammar's file
pub record Promises (file : FileGrammar) : Type 0 where
  pub fresh : EveryAnswerIsFresh file
  pub edits : EachTextIsItsEdits
  pub unicode : (content : List ℕ) (received : Received) → Receives content received → All IsSpelled (texts_of received)
  pub too_large : TooLargeIsExact file
  pub alone : EachDocumentIsAlone file
  pub histories : EachRunHasAHistory
  pub by_history : HistoriesDecide file
  pub left_out : OthersCanBeLeftOut file
  pub replies : EachRequestIsAnswered
  pub notifications : NoNotificationIsAnswered
  pub exit : NothingIsSentAfterExit

-- the messages of two documents, mixed in two ways: one is opened and asked for its text, the other is opened before or after the question
abbrev pub first_mix : List (List ℕ)
first_mix = initializes ∷ opens ∷ opens_other ∷ asks ∷ []

abbrev pub second_mix : List (List ℕ)
second_mix = initializes ∷ opens ∷ asks ∷ opens_other ∷ []

-- two sessions over these publish the same of the one document, and reply the same about it, whatever is sent of the other
abbrev pub MixedAlike : FileGrammar → Type 0
MixedAlike file =
    (answers others : List Answer) (stop other_stop : Option ℕ) (new other : State)
    → Run (first_state file) first_mix answers stop new → Run (first_state file) second_mix others other_stop other
    → (published reply other_published other_reply : Answer) × (between after : List Answer)
    × (answers ≡ capabilities_reply (of 1) Utf16 ∷ published ∷ (between ++ reply ∷ []))
    × (others ≡ capabilities_reply (of 1) Utf16 ∷ other_published ∷ other_reply ∷ after)
    × SendTheSame (published ∷ reply ∷ []) (other_published ∷ other_reply ∷ [])

-- the first mixture without the message that names the other document
abbrev pub without_other : List (List ℕ)
without_other = initializes ∷ opens ∷ asks ∷ []

-- two sessions, one without the message that names the other document, publish the same of the one document, reply the same about it, and
-- end alike
abbrev pub LeftOutAlike : FileGrammar → Type 0
LeftOutAlike file =
    (answers others : List Answer) (stop other_stop : Option ℕ) (new other : State)
    → Run (first_state file) first_mix answers stop new → Run (first_state file) without_other others other_stop other
    → (published reply other_published other_reply : Answer) × (between : List Answer)
    × (answers ≡ capabilities_reply (of 1) Utf16 ∷ published ∷ (between ++ reply ∷ []))
    × (others ≡ capabilities_reply (of 1) Utf16 ∷ other_published ∷ other_reply ∷ [])
    × SendTheSame (published ∷ reply ∷ []) (other_published ∷ other_reply ∷ []) × (other_stop ≡ stop)

-- the messages of a session that ends before its last one
abbrev pub until_exit : List (List ℕ)
until_exit = initializes ∷ opens ∷ asks ∷ exits ∷ shuts_down ∷ []

-- it sends two replies, to the two requests before `exit`, and stops there
abbrev pub RepliesInOrder : FileGrammar → Type 0
RepliesInOrder file =
    (answers : List Answer) (stop : Option ℕ) (new : State) → Run (first_state file) until_exit answers stop new
    → (all_replied answers ≡ Some (of 1) ∷ Some (of 2) ∷ []) × (stop ≡ Some (exit_status new.phase))

-- the message that opens the document gets no reply
abbrev pub OpensSilently : Type 0
OpensSilently =
    (old new : State) (answers : List Answer) (stop : Option ℕ) → Step old (received_in opens) answers stop new
    → all_replied answers ≡ []

-- a document that is opened empty isn't lost as too large
abbrev pub OpensSmall : FileGrammar → Type 0
OpensSmall file =
    (answers : List Answer) (stop : Option ℕ) (new : State) → Run (first_state file) (initializes ∷ opens ∷ []) answers stop new
    → ¬ (get new.documents uri ≡ Some (is_lost TooLarge))

-- the message that opens the other document leaves the one as it was, and sends no diagnostics of it
abbrev pub LeavesTheOther : FileGrammar → Type 0
LeavesTheOther file =
    (old new : State) (answers : List Answer) (stop : Option ℕ) → old.file ≡ file → Step old (received_in opens_other) answers stop new
    → (get new.documents uri ≡ get old.documents uri) × All (λ a. ¬ Publishes uri a) answers

-- the question about the one document is answered alike by two servers in one phase that hold the same under its URI, whatever else they
-- hold
abbrev pub RepliesAlike : FileGrammar → Type 0
RepliesAlike file =
    (one two new other : State) (answers others : List Answer) (stop other_stop : Option ℕ)
    → one.file ≡ file → two.file ≡ one.file → two.phase ≡ one.phase → get two.documents uri ≡ get one.documents uri
    → Step one (received_in asks) answers stop new → Step two (received_in asks) others other_stop other → SendTheSame answers others

-- a text is opened empty, `12` typed in and its first character taken out: there is a fresh server on `2`; each one answers all questions
-- alike, and published what are the last diagnostics of the session; unless memory was refused in the change
abbrev pub EndsAsFresh : FileGrammar → Type 0
EndsAsFresh file =
    (answers : List Answer) (stop : Option ℕ) (new : State) → Run (first_state file) (initializes ∷ opens ∷ types ∷ []) answers stop new
    → (get new.documents uri ≡ Some (is_lost Memory))
    ⊎ (((fresh : State) × (published : Answer) × IsFresh file Utf16 uri (pos 2) (codes "2") published fresh)
    × ((fresh : State) (published : Answer) → IsFresh file Utf16 uri (pos 2) (codes "2") published fresh
    → AnswerAlike uri new fresh × IsLastPublished uri answers published))

-- the URI and the text of each `didOpen` that is received are Unicode in UTF-8
abbrev pub OpensUnicode : Type 0
OpensUnicode =
    (content name text : List ℕ) (version : ℤ) → Receives content (accepted (notification (open_text name version text)))
    → IsSpelled name × IsSpelled text
