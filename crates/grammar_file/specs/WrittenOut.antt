-- What the marked words of a grammar file mean: each is a nonterminal with two productions.
use Rattle.std.specs.Prelude.{List, [], ◌∷◌, ◌++◌, map, filter}
use Rattle.std.specs.List.{fold, flat_map}
use Rattle.grammar_line.specs.declared.right_word.Mark.{Mark}
use Rattle.grammar_line.specs.declared.right_word.Mark.TheVariants.{Once, Any, AtLeastOnce, AtMostOnce}
use Rattle.grammar_line.specs.Words.{Word, mark_of, is_marked, plain}
use Rattle.grammar_line.specs.Statements.{Production, Statement, at}
use Rattle.grammar_file.specs.Contents.{productions, with_name}

-- `right_sides mark w x`: the right sides of the marked word `w` of the name `x`: `x* =` and `x* = x* x`; `x+ = x` and `x+ = x+ x`; `x? =`
-- and `x? = x`
abbrev pub right_sides : Mark → Word → Word → List (List Word)
right_sides Once w x = []
right_sides Any w x = [] ∷ (w ∷ x ∷ []) ∷ []
right_sides AtLeastOnce w x = (x ∷ []) ∷ (w ∷ x ∷ []) ∷ []
right_sides AtMostOnce w x = [] ∷ (x ∷ []) ∷ []

-- the productions of a marked word, which stand on no line and have the number 0
abbrev pub added : Word → List Statement
added w = map (λ right. at 0 (Production w right)) (right_sides (mark_of w) w (plain w))

-- the names with the marked words of `ws` after them, each once
abbrev pub with_marked : List Word → List Word → List Word
with_marked names ws = fold with_name names (filter is_marked ws)

-- the distinct marked words on right sides, in the order of first occurrence
abbrev pub marked : List Statement → List Word
marked ss = with_marked [] (flat_map (λ p. p.right) (productions ss))

-- the statements, and after them the productions of their marked words
abbrev pub written_out : List Statement → List Statement
written_out ss = ss ++ flat_map added (marked ss)
