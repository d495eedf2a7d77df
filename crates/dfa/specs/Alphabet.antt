-- The parts of the alphabet: characters that no rule tells apart.
use Rattle.std.specs.Prelude.{ℕ, zero, suc, ◌+◌, ◌==◌, if◌then◌else◌, List, [], ◌∷◌, ◌++◌, slice_index_or}
use Rattle.definitions.specs.declared.expression.Interval.{Interval}
use Rattle.definitions.specs.declared.expression.Expression.{Expression}
use Rattle.definitions.specs.declared.expression.Expression.TheVariants.{Literal, Class, Sequence', Choice', Star', Plus', Optional'}

-- the character after c, if there is one
abbrev pub after : ℕ → List ℕ
after c = if c == 0xD7FF then 0xE000 ∷ [] else (if c == 0x10FFFF then [] else (c + 1) ∷ [])

-- where an interval begins, and where what comes after it does
abbrev pub cut : ℕ → ℕ → List ℕ
cut first last = first ∷ after last

abbrev pub literal_cuts : List ℕ → List ℕ
literal_cuts [] = []
literal_cuts (c ∷ cs) = cut c c ++ literal_cuts cs

abbrev pub class_cuts : List Interval → List ℕ
class_cuts [] = []
class_cuts (i ∷ is) = cut i.first i.last ++ class_cuts is

abbrev pub cuts : Expression → List ℕ
cuts (Literal v) = literal_cuts v.items
cuts (Class negated v) = class_cuts v.items
cuts (Sequence' p a q b) = cuts a ++ cuts b
cuts (Choice' p a q b) = cuts a ++ cuts b
cuts (Star' p a) = cuts a
cuts (Plus' p a) = cuts a
cuts (Optional' p a) = cuts a

abbrev pub all_cuts : List Expression → List ℕ
all_cuts [] = []
all_cuts (e ∷ es) = cuts e ++ all_cuts es

-- `representative starts part`: a character that stands for the part with this number
abbrev pub representative : List ℕ → ℕ → ℕ
representative starts zero = 0
representative starts (suc k) = slice_index_or starts k 0
