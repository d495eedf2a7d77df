-- Whether an expression is well made, computed: no literal is empty, and each class has a member and no reversed range.
use Rattle.std.specs.Prelude.{Bool, not, ◌&&◌, nat_le}
use Rattle.std.specs.List.{list_all}
use Rattle.definitions.specs.declared.expression.Interval.{Interval}
use Rattle.definitions.specs.declared.expression.Expression.{Expression}
use Rattle.definitions.specs.declared.expression.Expression.TheVariants.{Literal, Class, Sequence', Choice', Star', Plus', Optional'}
use Rattle.definitions.specs.PatternText.{is_scalar}
use Rattle.definitions.specs.PatternFaults.{is_nothing}
use Rattle.patterns.specs.Empty.{is_empty}

-- whether the interval is of two characters, the first at most the last
abbrev pub is_range : Interval → Bool
is_range i = is_scalar i.first && (is_scalar i.last && nat_le i.first i.last)

-- `is_sound e`: whether the expression is well made: no literal is empty, and each class has a member and only ranges of characters that
-- aren't reversed
abbrev pub is_sound : Expression → Bool
is_sound (Literal v) = not (is_empty v.items)
is_sound (Class negated v) = list_all is_range v.items && not (is_nothing negated v.items)
is_sound (Sequence' p a q b) = is_sound a && is_sound b
is_sound (Choice' p a q b) = is_sound a && is_sound b
is_sound (Star' p a) = is_sound a
is_sound (Plus' p a) = is_sound a
is_sound (Optional' p a) = is_sound a
