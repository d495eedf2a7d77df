-- A stream of frames (LSP 3.17, "Base Protocol").
use Rattle.std.specs.Prelude.{◌≡◌, ◌≢◌, ℕ, ◌+◌, ◌<◌, nat_lt, if◌then◌else◌, List, [], ◌∷◌, ◌++◌, length, take, drop, Option, Some, None}
use Rattle.std.specs.Prelude.{Result, Ok, Err}
use Rattle.frames.specs.declared.fault.FrameFault.{FrameFault}
use Rattle.frames.specs.declared.fault.FrameFault.TheVariants.{Truncated, Memory, LongHeader}
use Rattle.frames.specs.declared.header.Start.{Start}
use Rattle.frames.specs.declared.header.Start.TheVariants.{NeedsMore, Fails, Announces}
use Rattle.frames.specs.Header.{header_size, header_length}

-- `given size result`: what comes of a whole header part of this size that gives a length or is faulty: a content of that length is
-- announced, or the fault
abbrev pub given : ℕ → Result ℕ FrameFault → Start
given size (Err fault) = Fails fault
given size (Ok n) = Announces size n

-- what comes of `n` bytes with no whole header part: more bytes are needed, or, from 4,096 on, the header is too long
abbrev pub unfinished : ℕ → Start
unfinished n = if nat_lt n 4096 then NeedsMore else Fails LongHeader

-- `start_at bytes n size`: what `n` bytes begin with, whose first 4,096 are `bytes`, with a header part of this size or none
abbrev pub start_at : List ℕ → ℕ → Option ℕ → Start
start_at prefix n None = unfinished n
start_at prefix n (Some size) = given size (header_length (take size prefix))

-- what bytes begin with: more are needed, a fault, or a header part that announces a content; it is looked for in the first 4,096 bytes,
-- since a header part has at most so many
abbrev pub start_of : List ℕ → Start
start_of bytes = start_at (take 4096 bytes) (length bytes) (header_size (take 4096 bytes))

-- a fault of the bytes: not that the stream is cut short, and not memory
abbrev pub IsStreamFault : FrameFault → Type 0
IsStreamFault fault = (fault ≢ Truncated) × (fault ≢ Memory)

-- `IsBegun bytes start`: what the bytes begin with isn't a fault, and its frame isn't whole yet
abbrev pub IsBegun : List ℕ → Start → Type 0
IsBegun bytes NeedsMore = Unit {0}
IsBegun bytes (Fails f) = ⊥
IsBegun bytes (Announces size n) = length bytes < size + n

-- what is left of a stream after its whole frames: a rest that is no whole frame, perhaps empty, or the first fault
pub data Tail : Type 0 where
  Open : List ℕ → Tail
  Faulty : FrameFault → Tail

-- `tail_of rest fault`: the tail of this rest, or of this fault, if there is one
abbrev pub tail_of : List ℕ → Option FrameFault → Tail
tail_of rest None = Open rest
tail_of rest (Some fault) = Faulty fault

-- `IsTail bytes tail`: the bytes, with no whole frame before them, are this tail
abbrev pub IsTail : List ℕ → Tail → Type 0
IsTail bytes (Open rest) = (bytes ≡ rest) × IsBegun bytes (start_of bytes)
IsTail bytes (Faulty fault) = start_of bytes ≡ Fails fault

-- the bytes begin with a header part of this size, and then this content, as long as it announces
pub record BeginsWith (bytes content : List ℕ) (size : ℕ) : Type 0 where
  pub header : start_of bytes ≡ Announces size (length content)
  pub follows : take (length content) (drop size bytes) ≡ content

-- `Splits bytes contents tail`: the stream is whole frames of these contents, and then the tail
abbrev pub Splits : List ℕ → List (List ℕ) → Tail → Type 0
Splits bytes [] tail = IsTail bytes tail
Splits bytes (content ∷ contents) tail = (size : ℕ) × BeginsWith bytes content size
    × Splits (drop (size + length content) bytes) contents tail

-- the stream is whole frames and a tail. The law `one_split`: each stream is so in exactly one way
abbrev pub HasSplit : List ℕ → Type 0
HasSplit bytes = (contents : List (List ℕ)) × (tail : Tail) × Splits bytes contents tail

-- some stream has this tail, with no frame before it
abbrev pub IsReached : Tail → Type 0
IsReached tail = (bytes : List ℕ) × Splits bytes [] tail

-- `Continues old piece contents new`: the old tail goes on with a piece: these contents are whole then, and the new tail is left
abbrev pub Continues : Tail → List ℕ → List (List ℕ) → Tail → Type 0
Continues (Open rest) piece contents new = Splits (rest ++ piece) contents new
Continues (Faulty fault) piece contents new = (contents ≡ []) × (new ≡ Faulty fault)

-- each stream with the old tail goes on with a piece: these contents are whole then, after the ones before, and the new tail is left
abbrev pub GoesOn : Tail → List ℕ → List (List ℕ) → Tail → Type 0
GoesOn old piece contents new = (bytes : List ℕ) (before : List (List ℕ)) → Splits bytes before old
    → Splits (bytes ++ piece) (before ++ contents) new

-- `IsOpen tail`: the tail is no fault
abbrev pub IsOpen : Tail → Type 0
IsOpen (Open rest) = Unit {0}
IsOpen (Faulty fault) = ⊥

-- `IsCut tail`: the tail is the rest of a begun frame
abbrev pub IsCut : Tail → Type 0
IsCut (Open rest) = rest ≢ []
IsCut (Faulty fault) = ⊥

-- `fault_of tail`: the fault of a tail, if it is one
abbrev pub fault_of : Tail → Option FrameFault
fault_of (Open rest) = None
fault_of (Faulty fault) = Some fault

-- `finish_of tail`: what the end of the stream says after this tail: nothing, that a begun frame is cut short, or its fault
abbrev pub finish_of : Tail → Result (Unit {0}) FrameFault
finish_of (Open []) = Ok tt
finish_of (Open (b ∷ bytes)) = Err Truncated
finish_of (Faulty fault) = Err fault
