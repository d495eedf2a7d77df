-- What the code keeps of a line, in the words of the definitions.
use Rattle.std.specs.Prelude.{ℕ, List, map}
use Rattle.std.specs.Borrow.{Bor}
use Rattle.grammar_line.specs.declared.line.Line.{Line as Kept}
use Rattle.grammar_line.specs.declared.line.Line.TheVariants as k
use Rattle.grammar_line.specs.Words.{Word}
use Rattle.grammar_line.specs.Statements.{Line, Nothing, Production, Rule, Start, Fold, Bad}

-- the words that the code points to
abbrev pub texts : List (Bor (List ℕ)) → List Word
texts ws = map (λ w. w.now) ws

-- `line_view line`: what a line that the code keeps says, as a `Line`
abbrev pub line_view : Kept → Line
line_view k.Nothing = Nothing
line_view (k.Production left right) = Production left.now (texts right.items)
line_view (k.Rule skip name pattern) = Rule skip name.now pattern.now
line_view (k.Start name) = Start name.now
line_view (k.Fold name) = Fold name.now
line_view k.Bad = Bad
