-- How the positions after one more character are computed. Marks, one for each position of the rules, are a set of positions.
-- The positions of an expression begin at o, and `start` says whether it can begin after what was read.
use Rattle.std.specs.Prelude.{ℕ, zero, suc, ◌+◌, ◌==◌, Bool, true, false, ◌||◌, if◌then◌else◌, List, [], ◌∷◌, ◌++◌, Option, Some, None}
use Rattle.std.specs.Prelude.{slice_index_or, filter}
use Rattle.definitions.specs.declared.expression.Expression.{Expression}
use Rattle.definitions.specs.declared.expression.Expression.TheVariants.{Literal, Class, Sequence', Choice', Star', Plus', Optional'}
use Rattle.definitions.specs.Patterns.{is_in_class}
use Rattle.dfa.specs.Positions.{positions}

abbrev pub mark : List Bool → ℕ → Bool
mark marks p = slice_index_or marks p false

-- `marked p marks`: the marks with that of position p set
abbrev pub marked : ℕ → List Bool → List Bool
marked zero [] = true ∷ []
marked zero (m ∷ ms) = true ∷ ms
marked (suc p) [] = false ∷ marked p []
marked (suc p) (m ∷ ms) = m ∷ marked p ms

-- the marks of the positions of a set, and of no others
unfoldable pub marks_of : List ℕ → List Bool
marks_of [] = []
marks_of (p ∷ set) = marked p (marks_of set)

abbrev pub unmarked : ℕ → List Bool
unmarked zero = []
unmarked (suc n) = false ∷ unmarked n

-- whether what was read can end with the expression
abbrev pub literal_end : List Bool → ℕ → Bool → List ℕ → Bool
literal_end marks o start [] = start
literal_end marks o start (d ∷ ds) = literal_end marks (o + 1) (mark marks o) ds

abbrev pub ends : List Bool → ℕ → Bool → Expression → Bool
ends marks o start (Literal v) = literal_end marks o start v.items
ends marks o start (Class negated v) = mark marks o
ends marks o start (Sequence' p a q b) = ends marks (o + positions a) (ends marks o start a) b
ends marks o start (Choice' p a q b) = ends marks o start a || ends marks (o + positions a) start b
ends marks o start (Star' p a) = ends marks o start a || start
ends marks o start (Plus' p a) = ends marks o start a
ends marks o start (Optional' p a) = ends marks o start a || start

-- for each position of the expression, whether one more character can stand there
abbrev pub literal_next : List Bool → ℕ → Bool → List ℕ → List Bool
literal_next marks o start [] = []
literal_next marks o start (d ∷ ds) = start ∷ literal_next marks (o + 1) (mark marks o) ds

abbrev pub next : List Bool → ℕ → Bool → Expression → List Bool
next marks o start (Literal v) = literal_next marks o start v.items
next marks o start (Class negated v) = start ∷ []
next marks o start (Sequence' p a q b) = next marks o start a ++ next marks (o + positions a) (ends marks o start a) b
next marks o start (Choice' p a q b) = next marks o start a ++ next marks (o + positions a) start b
next marks o start (Star' p a) = next marks o (ends marks o start a || start) a
next marks o start (Plus' p a) = next marks o (ends marks o start a || start) a
next marks o start (Optional' p a) = next marks o start a

-- `literal_holders c o chars`: the positions of a literal that hold the character `c`
abbrev pub literal_holders : ℕ → ℕ → List ℕ → List ℕ
literal_holders c o [] = []
literal_holders c o (d ∷ ds) = if d == c then o ∷ literal_holders c (o + 1) ds else literal_holders c (o + 1) ds

abbrev pub holders : ℕ → ℕ → Expression → List ℕ
holders c o (Literal v) = literal_holders c o v.items
holders c o (Class negated v) = if is_in_class negated v.items c then o ∷ [] else []
holders c o (Sequence' p a q b) = holders c o a ++ holders c (o + positions a) b
holders c o (Choice' p a q b) = holders c o a ++ holders c (o + positions a) b
holders c o (Star' p a) = holders c o a
holders c o (Plus' p a) = holders c o a
holders c o (Optional' p a) = holders c o a

-- `all_positions rules`: how many positions a list of rules has
abbrev pub all_positions : List Expression → ℕ
all_positions [] = 0
all_positions (e ∷ es) = positions e + all_positions es

abbrev pub all_next : List Bool → ℕ → Bool → List Expression → List Bool
all_next marks o start [] = []
all_next marks o start (e ∷ es) = next marks o start e ++ all_next marks (o + positions e) start es

abbrev pub all_holders : ℕ → ℕ → List Expression → List ℕ
all_holders c o [] = []
all_holders c o (e ∷ es) = holders c o e ++ all_holders c (o + positions e) es

-- `first_end marks o k rules`: the first rule that can end, where the first one has the number `k`
abbrev pub first_end : List Bool → ℕ → ℕ → List Expression → Option ℕ
first_end marks o k [] = None
first_end marks o k (e ∷ es) = if ends marks o false e then Some k else first_end marks (o + positions e) (k + 1) es

-- the positions at which the character c can stand after the marked ones
abbrev pub successor : List Expression → List Bool → Bool → ℕ → List ℕ
successor rules marks start c = filter (λ p. mark (all_next marks 0 start rules) p) (all_holders c 0 rules)
