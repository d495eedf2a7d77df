-- A whole session of the editor's server, from the bytes that are read to the bytes that are written.
use Rattle.std.specs.Prelude.{◌≡◌, ℕ, List, [], ◌++◌, Option, Result, Err}
use Rattle.std.specs.Io.KnownBytes.{Consumes}
use Rattle.frames.specs.Frames.{Tail, Splits}
use Rattle.readings.specs.Grammars.{FileGrammar}
use Rattle.sessions.specs.Sessions.{Ends, IsWritten}
use Rattle.sessions.specs.declared.fault.RunFault.{RunFault}
use Rattle.sessions.specs.declared.fault.RunFault.TheVariants.{Write, Memory}
use Rattle.editor_replies.specs.Sent.{Message}
use Rattle.editor_replies.specs.Sending.{bytes_of}
use Rattle.questions.specs.Cancels.{cancels}
use Rattle.ide.specs.Runs.{Event, Serves, contents_of}
use Rattle.shown.specs.Shown.{ShownData}
use Rattle.own_replies.specs.States.{IdeState, first_of}

-- `IsTaken result left`: whether contents may be left that are not answered: only where a write failed or memory was refused
abbrev pub IsTaken : Result ℕ RunFault → List (List ℕ) → Type 0
IsTaken (Err Write) left = Unit {0}
IsTaken (Err Memory) left = Unit {0}
IsTaken _ left = left ≡ []

-- `Session shown file input_old input_new output_old output_new result`: bytes were read that are whole frames with these contents, and a
-- tail; from the first state by this grammar file the editor's server serves the contents that it has taken, with looks at the files of its
-- language between them, up to the first `exit`; of the messages' bytes were written what the result calls for; and the result is the one
-- that the end calls for
pub record Session (shown : ShownData) (file : FileGrammar) (input_old input_new output_old output_new : Option (List ℕ))
    (outcome : Result ℕ RunFault) : Type 0 where
  pub bytes : List ℕ
  pub events : List Event
  pub left : List (List ℕ)
  pub tail : Tail
  pub messages : List Message
  pub stop : Option ℕ
  pub after : IdeState
  pub was_read : Consumes input_old input_new bytes
  pub split : Splits bytes (contents_of events ++ left) tail
  pub run : Serves (first_of file shown) events (cancels left) messages stop after
  pub all : IsTaken outcome left
  pub written : IsWritten outcome output_old output_new (bytes_of messages)
  pub ends : Ends outcome input_new tail stop
