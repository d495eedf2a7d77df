-- Expressions by their parts.
use Rattle.std.specs.Prelude.{◌≡◌}
use Rattle.definitions.specs.Spelling.{Address}
use Rattle.definitions.specs.declared.expression.Expression.{Expression}
use Rattle.definitions.specs.declared.expression.Expression.TheVariants.{Plus'}

-- `IsAtLeastOnce part e`: `e` is the part at least once, wherever that lies in memory
abbrev pub IsAtLeastOnce : Expression → Expression → Type 0
IsAtLeastOnce part e = (p : Address) × (e ≡ Plus' p part)
