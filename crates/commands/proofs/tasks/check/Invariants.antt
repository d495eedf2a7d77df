use Rattle.commands.proofs.Std.{◌≡◌, ◌++◌, List, map, string_bytes}
use Rattle.commands.proofs.Common.{Symbol, AreNotes, symbol_name, report}
use Rattle.commands.proofs.tasks.check.Given as goal

-- what is printed so far, and the lines of the names that are left
abbrev pub invariant-loop-name : goal.invariant-loop-name
invariant-loop-name l =
    (notes : List Symbol) × AreNotes l.language.file l.language.file.defined notes
    × (string_bytes l.out ++ report l.name-iterator ≡ report (map (symbol_name l.language.file) notes))
