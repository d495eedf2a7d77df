-- What is printed of a grammar file that defines no language.
use Rattle.std.specs.Prelude.{◌≡◌, ◌⊎◌, ℕ, List, []}
use Rattle.std.specs.Str.{IsUtf8}
use Rattle.docs.specs.Languages.{IsLoadFault}
use Rattle.docs.specs.declared.language.LoadFault.{LoadFault}
use Rattle.docs.specs.declared.language.LoadFault.TheVariants as load
use Rattle.commands.specs.Conflicts.{conflict_text}
use Rattle.commands.specs.Texts.{PrintsFault}
use Rattle.commands.specs.declared.fault.Fault.TheVariants.{Grammar, TooManyStates, TooManySets, NotUtf8}
use Rattle.commands.specs.declared.printed.Printed.{Printed}

-- `Reports fault printed`: what is printed of a fault on standard error, with status 2 and nothing on standard output: of a conflict its
-- four lines, of any other its text. That memory was refused has no such text
abbrev pub Reports : LoadFault → Printed → Type 0
Reports (load.Grammar fault) printed = PrintsFault (Grammar fault) printed
Reports load.TooManyStates printed = PrintsFault TooManyStates printed
Reports load.TooManySets printed = PrintsFault TooManySets printed
Reports (load.Conflict file conflict) printed =
    (printed.out.items ≡ []) × (printed.err.items ≡ conflict_text file conflict) × (printed.status ≡ 2)
Reports load.Memory printed = ⊥

-- what is printed where a grammar file of these bytes defines no language: that it isn't UTF-8, whatever its size, or what its first fault
-- `Reports`
abbrev pub IsRefused : List ℕ → Printed → Type 0
IsRefused bytes printed =
    (¬ IsUtf8 bytes × PrintsFault NotUtf8 printed)
    ⊎ (IsUtf8 bytes × ((fault : LoadFault) × IsLoadFault bytes fault × Reports fault printed))
