-- Whether an expression matches the empty text, computed.
use Rattle.std.specs.Prelude.{Bool, true, false, ◌&&◌, ◌||◌, List, [], ◌∷◌}
use Rattle.definitions.specs.declared.expression.Expression.{Expression}
use Rattle.definitions.specs.declared.expression.Expression.TheVariants.{Literal, Class, Sequence', Choice', Star', Plus', Optional'}

-- `is_empty xs`: whether the list is empty
abbrev pub is_empty : {A : Type 0} → List A → Bool
is_empty [] = true
is_empty (x ∷ xs) = false

-- `matches_empty e`: whether the expression matches the empty text
abbrev pub matches_empty : Expression → Bool
matches_empty (Literal v) = is_empty v.items
matches_empty (Class negated v) = false
matches_empty (Sequence' p a q b) = matches_empty a && matches_empty b
matches_empty (Choice' p a q b) = matches_empty a || matches_empty b
matches_empty (Star' p a) = true
matches_empty (Plus' p a) = matches_empty a
matches_empty (Optional' p a) = true
