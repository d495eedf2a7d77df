-- The causes of the code, in the words of the definitions.
use Rattle.std.specs.Prelude.{◌≡◌, ℕ, Option, Some, None, Result, IfSome, MatchResult, string_bytes}
use Rattle.grammar_file.specs.declared.fault.GrammarCause.{GrammarCause}
use Rattle.grammar_file.specs.declared.fault.GrammarCause.TheVariants as of
use Rattle.grammar_file.specs.declared.fault.GrammarFault.{GrammarFault}
use Rattle.grammar_file.specs.Faults.{Cause, FirstLine, BadLine, NoStart, SecondStart, DefinedTwice, Undefined, Reserved}
use Rattle.grammar_file.specs.Faults.{NotANonterminal, Unproductive, SkipInProduction, BadPattern, Passed}

-- `cause_of cause`: a cause of the code as a `Cause`; none where it is memory
abbrev pub cause_of : GrammarCause → Option Cause
cause_of of.FirstLine = Some FirstLine
cause_of of.BadLine = Some BadLine
cause_of (of.DefinedTwice w) = Some (DefinedTwice (string_bytes w))
cause_of (of.Undefined w) = Some (Undefined (string_bytes w))
cause_of (of.Reserved w) = Some (Reserved (string_bytes w))
cause_of (of.BadPattern f) = Some (BadPattern f)
cause_of of.NoStart = Some NoStart
cause_of of.SecondStart = Some SecondStart
cause_of (of.NotANonterminal w) = Some (NotANonterminal (string_bytes w))
cause_of (of.Unproductive w) = Some (Unproductive (string_bytes w))
cause_of (of.SkipInProduction w) = Some (SkipInProduction (string_bytes w))
cause_of (of.Limit l) = Some (Passed l)
cause_of of.Memory = None

-- `ReportsCause cause P`: what is said of a cause, where it isn't memory
abbrev pub ReportsCause : GrammarCause → (Cause → Type 0) → Type 0
ReportsCause cause P = IfSome (cause_of cause) P

-- `Reports fault P`: what is said of a fault's line and cause, where it isn't memory
abbrev pub Reports : GrammarFault → (ℕ → Cause → Type 0) → Type 0
Reports fault P = ReportsCause fault.cause (P fault.line)

-- `Tells result fault`: the result is this fault, and `Ok` where there is none; or memory was refused
abbrev pub Tells : Result (Unit {0}) GrammarCause → Option Cause → Type 0
Tells result fault = MatchResult result (λ _. fault ≡ None) (λ cause. ReportsCause cause (λ c. fault ≡ Some c))
