-- A whole session, from the bytes that are read to the bytes that are written.
use Rattle.std.specs.Prelude.{◌≡◌, ℕ, ◌⊎◌, List, ◌++◌, Option, Some, None, Result, Ok, Err}
use Rattle.std.specs.Io.KnownBytes.{Consumes, Appends, IsAtEnd}
use Rattle.frames.specs.Frames.{Tail, IsOpen, Splits, finish_of}
use Rattle.sessions.specs.declared.fault.RunFault.{RunFault}
use Rattle.sessions.specs.declared.fault.RunFault.TheVariants.{Frame, Read, Write, Memory}
use Rattle.readings.specs.Grammars.{FileGrammar}
use Rattle.rpc.specs.Replies.{Answer}
use Rattle.sessions.specs.Steps.{State, first_state}
use Rattle.sessions.specs.Runs.{Run, bytes_of}

-- a prefix of the bytes was written
abbrev pub AppendsPrefix : Option (List ℕ) → Option (List ℕ) → List ℕ → Type 0
AppendsPrefix old new bytes = (prefix rest : List ℕ) × (bytes ≡ prefix ++ rest) × Appends old new prefix

-- `IsWritten result old new bytes`: all of the bytes are written, or a prefix of them where a write failed or memory was refused
abbrev pub IsWritten : Result ℕ RunFault → Option (List ℕ) → Option (List ℕ) → List ℕ → Type 0
IsWritten (Ok status) old new bytes = Appends old new bytes
IsWritten (Err (Frame fault)) old new bytes = Appends old new bytes
IsWritten (Err Read) old new bytes = Appends old new bytes
IsWritten (Err Write) old new bytes = AppendsPrefix old new bytes
IsWritten (Err Memory) old new bytes = AppendsPrefix old new bytes

-- `Ends result left tail stop`: why the session ended: by `exit` with its status; at the end of the input, between frames, with status 1;
-- by a fault of the stream; by a read that failed, with no fault in what was read; by a write that failed, or refused memory
abbrev pub Ends : Result ℕ RunFault → Option (List ℕ) → Tail → Option ℕ → Type 0
Ends (Ok status) left tail stop = (stop ≡ Some status) ⊎ ((stop ≡ None) × IsAtEnd left × (finish_of tail ≡ Ok tt) × (status ≡ 1))
Ends (Err (Frame fault)) left tail stop = (stop ≡ None) × (finish_of tail ≡ Err fault) × (IsOpen tail → IsAtEnd left)
Ends (Err Read) left tail stop = (stop ≡ None) × IsOpen tail
Ends (Err Write) left tail stop = Unit {0}
Ends (Err Memory) left tail stop = Unit {0}

-- `Session file read left old new result`: bytes were read that are whole frames with these contents, and a tail; from the first state by
-- this grammar file there is a run over the contents with these answers, up to the first `exit`; of the answers' bytes were written what
-- the result calls for; and the result is the one that the end calls for
pub record Session (file : FileGrammar) (input_old input_new output_old output_new : Option (List ℕ))
    (outcome : Result ℕ RunFault) : Type 0 where
  pub bytes : List ℕ
  pub contents : List (List ℕ)
  pub tail : Tail
  pub answers : List Answer
  pub stop : Option ℕ
  pub after : State
  pub was_read : Consumes input_old input_new bytes
  pub split : Splits bytes contents tail
  pub run : Run (first_state file) contents answers stop after
  pub written : IsWritten outcome output_old output_new (bytes_of answers)
  pub ends : Ends outcome input_new tail stop
