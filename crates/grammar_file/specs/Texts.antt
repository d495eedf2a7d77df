-- The texts of faults of grammar files, in UTF-8.
use Rattle.std.specs.Prelude.{ℕ, ◌++◌, List, codes, decimal, string_bytes}
use Rattle.definitions.specs.declared.expression.PatternCause.{PatternCause}
use Rattle.definitions.specs.declared.expression.PatternCause.TheVariants as pattern
use Rattle.grammar_file.specs.declared.fault.Limit.{Limit}
use Rattle.grammar_file.specs.declared.fault.Limit.TheVariants as limit
use Rattle.grammar_file.specs.declared.fault.GrammarCause.{GrammarCause}
use Rattle.grammar_file.specs.declared.fault.GrammarCause.TheVariants as cause
use Rattle.grammar_file.specs.declared.fault.GrammarFault.{GrammarFault}

-- `pattern_code cause`: the code that is printed of a pattern's fault, `P1` to `P6`
abbrev pub pattern_code : PatternCause → List ℕ
pattern_code pattern.Syntax = codes "P1"
pattern_code pattern.EmptyClass = codes "P2"
pattern_code pattern.ReversedRange = codes "P3"
pattern_code pattern.EmptyLiteral = codes "P4"
pattern_code pattern.MatchesEmpty = codes "P5"
pattern_code pattern.Memory = codes "P6"

-- `limit_name limit`: what there is too much of
abbrev pub limit_name : Limit → List ℕ
limit_name limit.File = codes "file"
limit_name limit.Tokens = codes "tokens"
limit_name limit.Nonterminals = codes "nonterminals"
limit_name limit.Productions = codes "productions"
limit_name limit.Symbols = codes "symbols"

-- `cause_text cause`: the text of what is wrong with a grammar file
abbrev pub cause_text : GrammarCause → List ℕ
cause_text cause.FirstLine = codes "G1 first line"
cause_text cause.BadLine = codes "G2 bad line"
cause_text (cause.DefinedTwice name) = codes "G3 defined twice: " ++ string_bytes name
cause_text (cause.Undefined name) = codes "G4 undefined: " ++ string_bytes name
cause_text (cause.Reserved name) = codes "G5 reserved: " ++ string_bytes name
cause_text (cause.BadPattern fault) = codes "G6 bad pattern at " ++ (decimal fault.at ++ (codes ": " ++ pattern_code fault.cause))
cause_text cause.NoStart = codes "G7 no start"
cause_text cause.SecondStart = codes "G7 second start"
cause_text (cause.NotANonterminal name) = codes "G8 not a nonterminal: " ++ string_bytes name
cause_text (cause.Unproductive name) = codes "G9 unproductive: " ++ string_bytes name
cause_text (cause.SkipInProduction name) = codes "G10 skip token in a production: " ++ string_bytes name
cause_text (cause.Limit limit) = codes "G11 limit passed: " ++ limit_name limit
cause_text cause.Memory = codes "no memory"

-- the text of a fault: the number of its line, and its `cause_text`
abbrev pub fault_text : GrammarFault → List ℕ
fault_text fault = codes "line " ++ (decimal fault.line ++ (codes ": " ++ cause_text fault.cause))
