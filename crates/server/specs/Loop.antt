-- What the loop over the input keeps, in parts of a session.
use Rattle.std.specs.Prelude.{◌≡◌, ℕ, List, Option, Result, Ok, Err, IfOk, OnErr, MatchResult}
use Rattle.std.specs.Io.KnownBytes.{Appends}
use Rattle.frames.specs.Frames.{Tail, finish_of}
use Rattle.frames.specs.declared.fault.FrameFault.{FrameFault}
use Rattle.frames.specs.declared.fault.FrameFault.TheVariants as frame
use Rattle.sessions.specs.declared.fault.RunFault.{RunFault}
use Rattle.sessions.specs.declared.fault.RunFault.TheVariants.{Frame, Read, Write, Memory}
use Rattle.rpc.specs.Replies.{Answer}
use Rattle.sessions.specs.Steps.{State}
use Rattle.sessions.specs.Runs.{Run, bytes_of}
use Rattle.sessions.specs.Sessions.{AppendsPrefix}

-- all answers of a run over the contents are written
pub record Served (old new : Option (List ℕ)) (before : State) (contents : List (List ℕ)) (stop : Option ℕ) (after : State) : Type 0 where
  pub answers : List Answer
  pub run : Run before contents answers stop after
  pub written : Appends old new (bytes_of answers)

-- a prefix of the answers of a run over the contents is written
pub record ServedInPart (old new : Option (List ℕ)) (before : State) (contents : List (List ℕ)) : Type 0 where
  pub answers : List Answer
  pub stop : Option ℕ
  pub after : State
  pub run : Run before contents answers stop after
  pub written : AppendsPrefix old new (bytes_of answers)

-- what the end of the input means after this tail
abbrev pub EndsAt : Result ℕ RunFault → Tail → Type 0
EndsAt (Ok status) tail = (finish_of tail ≡ Ok tt) × (status ≡ 1)
EndsAt (Err (Frame fault)) tail = finish_of tail ≡ Err fault
EndsAt (Err Read) tail = ⊥
EndsAt (Err Write) tail = ⊥
EndsAt (Err Memory) tail = ⊥

-- `IsCutShort fault failures`: why answering is cut short, and how often the output has failed then: once where a write failed, never where
-- memory was refused
abbrev pub IsCutShort : RunFault → ℕ → Type 0
IsCutShort (Frame fault) failures = ⊥
IsCutShort Read failures = ⊥
IsCutShort Write failures = failures ≡ 1
IsCutShort Memory failures = failures ≡ 0

-- what comes of answering some contents: all answers are written (`Served`), or a prefix of them (`ServedInPart`), because a write failed
-- or memory was refused
pub record HasServed (old new : Option (List ℕ)) (failures : ℕ) (before : State) (contents : List (List ℕ))
    (result : Result (Option ℕ) RunFault) (after : State) : Type 0 where
  pub written : IfOk result (λ stop. Served old new before contents stop after)
  pub part : OnErr result (ServedInPart old new before contents)
  pub device : MatchResult result (λ _. failures ≡ 0) (λ e. IsCutShort e failures)

-- `run_fault fault`: a fault of the stream as the fault of a session; memory refused in the frames is memory refused
abbrev pub run_fault : FrameFault → RunFault
run_fault frame.BadField = Frame frame.BadField
run_fault frame.NoLength = Frame frame.NoLength
run_fault frame.SecondLength = Frame frame.SecondLength
run_fault frame.BadLength = Frame frame.BadLength
run_fault frame.BadCharset = Frame frame.BadCharset
run_fault frame.Truncated = Frame frame.Truncated
run_fault frame.Memory = Memory
run_fault frame.LongHeader = Frame frame.LongHeader
