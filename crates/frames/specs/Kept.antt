-- What a decoder keeps, so that it looks at no byte again and again.
use Rattle.std.specs.Prelude.{◌≡◌, ℕ, ◌<◌, ◌≤◌, List, ◌++◌, length, take, Option, None}
use Rattle.frames.specs.declared.fault.FrameFault.{FrameFault}
use Rattle.frames.specs.declared.header.Start.{Start}
use Rattle.frames.specs.declared.header.Start.TheVariants.{NeedsMore, Fails, Announces}
use Rattle.frames.specs.Header.{through, blank_line}
use Rattle.frames.specs.Frames.{IsBegun, IsStreamFault, IsTail, start_of, tail_of}

-- `StartIsWithin start bytes`: what bytes begin with is in bounds: a header part lies within them and has 2 to 4,096 bytes, a content at
-- most 16,777,216, and a fault is one of the bytes
abbrev pub StartIsWithin : Start → List ℕ → Type 0
StartIsWithin NeedsMore bytes = Unit {0}
StartIsWithin (Fails f) bytes = IsStreamFault f
StartIsWithin (Announces size n) bytes = (2 ≤ size) × (size ≤ 4096) × (size ≤ length bytes) × (n ≤ 16777216)

-- of fewer than `awaited` bytes that begin with the rest, no frame is whole
abbrev pub Awaits : List ℕ → ℕ → Type 0
Awaits rest awaited = (more : List ℕ) → length (rest ++ more) < awaited → IsBegun (rest ++ more) (start_of (rest ++ more))

-- the first `searched` bytes hold no CR LF CR LF
abbrev pub HoldsNone : List ℕ → ℕ → Type 0
HoldsNone rest searched = through blank_line (take searched rest) ≡ None

-- what a decoder keeps of the bytes after the whole frames: they are the tail, with what `Awaits` and `HoldsNone` say of them, so that it
-- looks at no byte again and again
pub record IsDecoder (rest : List ℕ) (awaited searched : ℕ) (fault : Option FrameFault) : Type 0 where
  pub tail : IsTail rest (tail_of rest fault)
  pub waits : Awaits rest awaited
  pub within : searched ≤ length rest
  pub holds : HoldsNone rest searched
