-- The faults of the program.
use Rattle.std.specs.Prelude.{ℕ}
use Rattle.sessions.specs.declared.fault.RunFault.{RunFault}
use Rattle.sessions.specs.declared.fault.RunFault.TheVariants as session
use Rattle.commands.specs.declared.fault.Fault.{Fault}
use Rattle.commands.specs.declared.fault.Fault.TheVariants.{CommandLine, Grammar, TooManyStates, TooManySets, NotUtf8, TextNotUtf8}
use Rattle.commands.specs.declared.fault.Fault.TheVariants.{TextTooLarge, CannotRead, Memory, Frame, Read, Write}

-- `status_of fault`: the exit status of a fault: 2 for a refused command line or grammar, 1 for what goes wrong outside of them
abbrev pub status_of : Fault → ℕ
status_of CommandLine = 2
status_of (Grammar fault) = 2
status_of TooManyStates = 2
status_of TooManySets = 2
status_of NotUtf8 = 2
status_of TextNotUtf8 = 1
status_of TextTooLarge = 1
status_of (CannotRead path) = 1
status_of Memory = 1
status_of (Frame fault) = 1
status_of Read = 1
status_of Write = 1

-- `fault_of fault`: the fault that ends the program where a session ends with one
abbrev pub fault_of : RunFault → Fault
fault_of (session.Frame fault) = Frame fault
fault_of session.Read = Read
fault_of session.Write = Write
fault_of session.Memory = Memory
