-- The texts of faults, in UTF-8.
use Rattle.std.specs.Prelude.{◌≡◌, ℕ, ◌++◌, List, [], codes, string_bytes}
use Rattle.frames.specs.declared.fault.FrameFault.{FrameFault}
use Rattle.frames.specs.declared.fault.FrameFault.TheVariants as frame
use Rattle.grammar.specs.Faults.{fault_text}
use Rattle.commands.specs.declared.fault.Fault.{Fault}
use Rattle.commands.specs.declared.fault.Fault.TheVariants.{CommandLine, Grammar, TooManyStates, TooManySets, NotUtf8, TextNotUtf8}
use Rattle.commands.specs.declared.fault.Fault.TheVariants.{TextTooLarge, CannotRead, Memory, Frame, Read, Write}
use Rattle.commands.specs.declared.printed.Printed.{Printed}
use Rattle.commands.specs.Status.{status_of}

-- `frame_code fault`: `F1` to `F8`, for the faults of frames
abbrev pub frame_code : FrameFault → List ℕ
frame_code frame.BadField = codes "F1"
frame_code frame.NoLength = codes "F2"
frame_code frame.SecondLength = codes "F3"
frame_code frame.BadLength = codes "F4"
frame_code frame.BadCharset = codes "F5"
frame_code frame.Truncated = codes "F6"
frame_code frame.Memory = codes "F7"
frame_code frame.LongHeader = codes "F8"

-- `text_of fault`: the line that is printed of a fault, without its end
abbrev pub text_of : Fault → List ℕ
text_of CommandLine = codes "usage: lrls check GRAMMAR | parse GRAMMAR TEXT | serve GRAMMAR"
text_of (Grammar fault) = codes "lrls: " ++ fault_text fault
text_of TooManyStates = codes "lrls: over 4096 automaton states"
text_of TooManySets = codes "lrls: over 8192 table states"
text_of NotUtf8 = codes "lrls: grammar is not UTF-8"
text_of TextNotUtf8 = codes "lrls: text is not UTF-8"
text_of TextTooLarge = codes "lrls: text too large"
text_of (CannotRead path) = codes "lrls: cannot read " ++ string_bytes path
text_of Memory = codes "lrls: no memory"
text_of (Frame fault) = codes "lrls: frame fault " ++ frame_code fault
text_of Read = codes "lrls: read fault"
text_of Write = codes "lrls: write fault"

-- nothing on standard output, the fault's line on standard error, and the fault's status
pub record PrintsFault (fault : Fault) (printed : Printed) : Type 0 where
  pub out : printed.out.items ≡ []
  pub err : printed.err.items ≡ text_of fault ++ codes "\n"
  pub status : printed.status ≡ status_of fault
