-- A mended copy that is kept over messages.
use Rattle.std.specs.Prelude.{List, Option, IfSome, Some}
use Rattle.definitions.specs.declared.Kind.{Kind}
use Rattle.docs.specs.Languages.{LanguageData}
use Rattle.mending.specs.declared.mending.Mending.{Mending}
use Rattle.mending.specs.Mendings.{IsMendingOf}
use Rattle.shown.specs.declared.kept.Copied.{Copied}

-- `IsCopyBy language copy`: the mended copy, if there is one, is that of some kinds, by the tables of the language
abbrev pub IsCopyBy : LanguageData → Option Mending → Type 0
IsCopyBy language copy = IfSome copy (λ m. (kinds : List Kind) × IsMendingOf language.tables kinds m)

-- `IsKeptBy language copied`: what is kept is a copy by the tables of the language
abbrev pub IsKeptBy : LanguageData → Option Copied → Type 0
IsKeptBy language copied = IfSome copied (λ c. IsCopyBy language (Some c.mending))
