-- What a session comes to whose bytes are all known.
use Rattle.std.specs.Prelude.{◌≡◌, ℕ, ◌⊎◌, List, ◌++◌, Option, Some, None, Result, Ok, Err}
use Rattle.frames.specs.Frames.{Tail, finish_of}
use Rattle.sessions.specs.declared.fault.RunFault.{RunFault}
use Rattle.sessions.specs.declared.fault.RunFault.TheVariants.{Frame, Read, Write, Memory}
use Rattle.readings.specs.Grammars.{FileGrammar}
use Rattle.rpc.specs.Replies.{Answer}
use Rattle.sessions.specs.Runs.{Run, bytes_of}
use Rattle.sessions.specs.Steps.{State, first_state}

-- `Wrote file contents written Stops`: there is a run over the contents, `Stops` holds of the status with which it stopped, if it did, and
-- the bytes of its answers were written
abbrev pub Wrote : FileGrammar → List (List ℕ) → List ℕ → (Option ℕ → Type 0) → Type 0
Wrote file contents written Stops =
    (answers : List Answer) × (stop : Option ℕ) × (after : State)
    × Run (first_state file) contents answers stop after × (written ≡ bytes_of answers) × Stops stop

-- there is a run over some of the contents, from the first on, and a prefix of the bytes of its answers was written
abbrev pub WroteInPart : FileGrammar → List (List ℕ) → List ℕ → Type 0
WroteInPart file contents written =
    (part more : List (List ℕ)) × (answers : List Answer) × (stop : Option ℕ) × (after : State) × (rest : List ℕ)
    × (part ++ more ≡ contents) × Run (first_state file) part answers stop after × (bytes_of answers ≡ written ++ rest)

-- `ComesTo file contents tail written outcome`: what a session comes to over a stream of frames with these contents, and this tail: it
-- ends by `exit`; or at the end of the stream, with status 1; or by the tail's fault; or the input gave out after some of the contents, all
-- answers to which were written; or the output gave out, or memory was refused (`WroteInPart`)
abbrev pub ComesTo : FileGrammar → List (List ℕ) → Tail → List ℕ → Result ℕ RunFault → Type 0
ComesTo file contents tail written (Ok status) =
    Wrote file contents written (λ stop. (stop ≡ Some status) ⊎ ((stop ≡ None) × (finish_of tail ≡ Ok tt) × (status ≡ 1)))
ComesTo file contents tail written (Err (Frame fault)) =
    Wrote file contents written (λ stop. (stop ≡ None) × (finish_of tail ≡ Err fault))
ComesTo file contents tail written (Err Read) =
    (part more : List (List ℕ)) × (part ++ more ≡ contents) × Wrote file part written (λ stop. stop ≡ None)
ComesTo file contents tail written (Err Write) = WroteInPart file contents written
ComesTo file contents tail written (Err Memory) = WroteInPart file contents written

-- `GaveOut outcome`: a device gave out, or memory was refused
abbrev pub GaveOut : Result ℕ RunFault → Type 0
GaveOut (Ok status) = ⊥
GaveOut (Err (Frame fault)) = ⊥
GaveOut (Err Read) = Unit {0}
GaveOut (Err Write) = Unit {0}
GaveOut (Err Memory) = Unit {0}

-- a prefix of the bytes was written
abbrev pub IsPrefixOf : List ℕ → List ℕ → Type 0
IsPrefixOf bytes written = (rest : List ℕ) × (bytes ≡ written ++ rest)

-- a session ended so and wrote these bytes; or it gave out, and wrote a prefix of them
abbrev pub Came : Result ℕ RunFault → List ℕ → Result ℕ RunFault → List ℕ → Type 0
Came wanted bytes outcome written = ((outcome ≡ wanted) × (written ≡ bytes)) ⊎ (GaveOut outcome × IsPrefixOf bytes written)

-- a session ended so and wrote these bytes or those; or it gave out, and wrote a prefix of these or of those
abbrev pub CameEither : Result ℕ RunFault → List ℕ → List ℕ → Result ℕ RunFault → List ℕ → Type 0
CameEither wanted bytes others outcome written =
    ((outcome ≡ wanted) × ((written ≡ bytes) ⊎ (written ≡ others)))
    ⊎ (GaveOut outcome × (IsPrefixOf bytes written ⊎ IsPrefixOf others written))
