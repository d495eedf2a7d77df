-- When tables are rightly refused.
use Rattle.std.specs.Prelude.{ℕ}
use Rattle.definitions.specs.Trees.{Grammar}
use Rattle.definitions.specs.Derivations.{IsLr1}
use Rattle.definitions.specs.Items.{HasMoreSetsThan}
use Rattle.tables.specs.declared.tables.TableFault.{TableFault}
use Rattle.tables.specs.declared.tables.TableFault.TheVariants.{TooManySets, Conflict, Memory}
use Rattle.tables.specs.Reports.{IsReport}

-- the fault is a conflict that is there, or that memory was refused
abbrev pub IsConflictOf : Grammar → TableFault → Type 0
IsConflictOf g TooManySets = ⊥
IsConflictOf g (Conflict c) = IsReport g c
IsConflictOf g Memory = Unit {0}

-- `IsRight g limit fault`: tables are rightly refused: as too many sets where there are more than the limit, as a conflict where there are
-- not and it is one, and for memory at any time
abbrev pub IsRight : Grammar → ℕ → TableFault → Type 0
IsRight g limit TooManySets = HasMoreSetsThan g limit
IsRight g limit (Conflict c) = IsReport g c × (HasMoreSetsThan g limit → ⊥)
IsRight g limit Memory = Unit {0}

-- `RefutesLr1 g fault`: where the fault is a conflict, the grammar is not LR(1)
abbrev pub RefutesLr1 : Grammar → TableFault → Type 0
RefutesLr1 g TooManySets = Unit {0}
RefutesLr1 g (Conflict c) = IsLr1 g → ⊥
RefutesLr1 g Memory = Unit {0}
