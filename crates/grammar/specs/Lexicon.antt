-- The token rules that a text is cut into tokens by.
use Rattle.std.specs.Prelude.{Bool, List}
use Rattle.definitions.specs.declared.expression.Expression.{Expression}

-- token and skip rules, numbered in order, with their patterns and whether they are skipped
pub record Lexicon : Type 0 where
  pub patterns : List Expression
  pub skips : List Bool
