-- What `lrls parse` prints of a text.
use Rattle.std.specs.Prelude.{◌≡◌, ◌⊎◌, ℕ, ◌++◌, true, false, List, [], codes, decimal, string_bytes}
use Rattle.std.specs.Str.{IsUtf8, chars}
use Rattle.definitions.specs.declared.Diagnostic.{Diagnostic}
use Rattle.definitions.specs.declared.Position.{Position}
use Rattle.definitions.specs.declared.Unit.TheVariants.{Utf16}
use Rattle.grammar.specs.Grammars.{FileGrammar}
use Rattle.docs.specs.declared.doc.Outcome.{Outcome}
use Rattle.docs.specs.declared.doc.Outcome.TheVariants.{Tree, Fault}
use Rattle.docs.specs.Outcomes.{IsOutcome}
use Rattle.docs.specs.Texts.{fits}
use Rattle.commands.specs.declared.fault.Fault.TheVariants.{TextNotUtf8, TextTooLarge}
use Rattle.commands.specs.declared.printed.Printed.{Printed}
use Rattle.commands.specs.Texts.{PrintsFault}

-- `L:C`
abbrev pub place_text : Position → List ℕ
place_text p = decimal p.line ++ (codes ":" ++ decimal p.character)

-- `L:C-L:C: MESSAGE` and the end of the line
abbrev pub fault_line : Diagnostic → List ℕ
fault_line d =
    place_text d.range.start ++ (codes "-" ++ (place_text d.range.end ++ (codes ": " ++ (string_bytes d.message ++ codes "\n"))))

-- `Prints outcome printed`: what is printed of an outcome, on standard output: the text of a tree with status 0, or the line of a fault
-- with status 1
abbrev pub Prints : Outcome → Printed → Type 0
Prints (Tree text) printed = (printed.out.items ≡ string_bytes text ++ codes "\n") × (printed.err.items ≡ []) × (printed.status ≡ 0)
Prints (Fault d) printed = (printed.out.items ≡ fault_line d) × (printed.err.items ≡ []) × (printed.status ≡ 1)

-- what `lrls parse` prints of a file of these bytes, and its status: the fault that it isn't UTF-8 or is too large; or what its outcome
-- `Prints`. Positions count UTF-16 units
abbrev pub IsParsed : FileGrammar → List ℕ → Printed → Type 0
IsParsed file bytes printed =
    (¬ IsUtf8 bytes × PrintsFault TextNotUtf8 printed)
    ⊎ (IsUtf8 bytes × (fits (chars bytes) ≡ false) × PrintsFault TextTooLarge printed)
    ⊎ (IsUtf8 bytes × (fits (chars bytes) ≡ true)
    × ((outcome : Outcome) × IsOutcome Utf16 file (chars bytes) outcome × Prints outcome printed))
