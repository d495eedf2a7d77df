-- What the loop over the input keeps, in parts of a session of the editor's server.
use Rattle.std.specs.Prelude.{◌≡◌, ℕ, List, ◌++◌, Option, Result, IfOk, OnErr, MatchResult}
use Rattle.std.specs.Io.KnownBytes.{Appends}
use Rattle.replies.specs.Ids.{Ident}
use Rattle.sessions.specs.declared.fault.RunFault.{RunFault}
use Rattle.sessions.specs.Sessions.{AppendsPrefix}
use Rattle.server.specs.Loop.{IsCutShort}
use Rattle.editor_replies.specs.Sent.{Message}
use Rattle.editor_replies.specs.Sending.{bytes_of}
use Rattle.questions.specs.Cancels.{cancels}
use Rattle.ide.specs.Runs.{Event, Serves, contents_of}
use Rattle.own_replies.specs.States.{IdeState}

-- all messages on the contents are written
pub record Served (old new : Option (List ℕ)) (before : IdeState) (contents : List (List ℕ)) (later : List (Option Ident)) (stop : Option ℕ)
    (after : IdeState) : Type 0 where
  pub events : List Event
  pub messages : List Message
  pub parts : contents_of events ≡ contents
  pub run : Serves before events later messages stop after
  pub written : Appends old new (bytes_of messages)

-- a prefix of the messages on the first of the contents is written
pub record ServedInPart (old new : Option (List ℕ)) (before : IdeState) (contents : List (List ℕ)) (later : List (Option Ident)) :
    Type 0 where
  pub events : List Event
  pub left : List (List ℕ)
  pub messages : List Message
  pub stop : Option ℕ
  pub after : IdeState
  pub parts : contents ≡ contents_of events ++ left
  pub run : Serves before events (cancels left ++ later) messages stop after
  pub written : AppendsPrefix old new (bytes_of messages)

-- what comes of answering some contents: all messages are written (`Served`), or a prefix of them (`ServedInPart`), because a write failed
-- or memory was refused
pub record HasServed (old new : Option (List ℕ)) (failures : ℕ) (before : IdeState) (contents : List (List ℕ)) (later : List (Option Ident))
    (result : Result (Option ℕ) RunFault) (after : IdeState) : Type 0 where
  pub written : IfOk result (λ stop. Served old new before contents later stop after)
  pub part : OnErr result (ServedInPart old new before contents later)
  pub device : MatchResult result (λ _. failures ≡ 0) (λ e. IsCutShort e failures)
