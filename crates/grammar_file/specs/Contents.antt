-- What the statements of a grammar file define.
use Rattle.std.specs.Prelude.{ℕ, Bool, if◌then◌else◌, List, [], ◌∷◌, ◌++◌, length, map, Option, Some, None, unwrap_or}
use Rattle.std.specs.List.{cons_option, filter_map, fold, list_any, position}
use Rattle.std.specs.Str.{bytes_eq}
use Rattle.definitions.specs.declared.Symbol.{Symbol}
use Rattle.definitions.specs.declared.Symbol.TheVariants.{Rule as Terminal, Nonterminal}
use Rattle.grammar_line.specs.Words.{Word}
use Rattle.grammar_line.specs.Statements.{Line, Production, Rule, Start, Statement}

-- what a `token` or `skip` line says: whether it is `skip`, the name and the pattern
pub record RuleLine : Type 0 where
  pub skip : Bool
  pub name : Word
  pub pattern : Word

-- what a production's line says: the left side and the right side
pub record ProductionLine : Type 0 where
  pub left : Word
  pub right : List Word

-- `as_rule line`: a line as a `RuleLine`, if it is one
abbrev pub as_rule : Line → Option RuleLine
as_rule (Rule skip name pattern) = Some (record { skip = skip; name = name; pattern = pattern })
as_rule _ = None

-- `as_production line`: a line as a `ProductionLine`, if it is one
abbrev pub as_production : Line → Option ProductionLine
as_production (Production left right) = Some (record { left = left; right = right })
as_production _ = None

-- `as_start line`: the name after `start`, if the line is one
abbrev pub as_start : Line → Option Word
as_start (Start name) = Some name
as_start _ = None

-- the token and skip rules of statements, in file order
abbrev pub rules : List Statement → List RuleLine
rules ss = filter_map (λ s. as_rule s.says) ss

-- the productions of statements, in file order
abbrev pub productions : List Statement → List ProductionLine
productions ss = filter_map (λ s. as_production s.says) ss

-- the names after `start`, in file order
abbrev pub starts : List Statement → List Word
starts ss = filter_map (λ s. as_start s.says) ss

-- whether the word is one of these
abbrev pub is_among : Word → List Word → Bool
is_among w ws = list_any (λ v. bytes_eq v w) ws

-- the names with `w` after them, unless it is one of them
abbrev pub with_name : List Word → Word → List Word
with_name names w = if is_among w names then names else names ++ w ∷ []

-- the nonterminals, each once, in the order of their first productions
abbrev pub nonterminals : List Statement → List Word
nonterminals ss = fold with_name [] (map (λ p. p.left) (productions ss))

-- the place of a name in a list; the length of the list where it isn't there
abbrev pub number_of : Word → List Word → ℕ
number_of w names = unwrap_or (position (λ v. bytes_eq v w) names) (length names)

-- `defines ss line`: what a line defines after these statements: a rule, or a nonterminal at its first production
abbrev pub defines : List Statement → Line → Option Symbol
defines ss (Production left right) = if is_among left (nonterminals ss) then None else Some (Nonterminal (length (nonterminals ss)))
defines ss (Rule skip name pattern) = Some (Terminal (length (rules ss)))
defines ss _ = None

-- `defined_after before ss`: what the statements `ss` define after those before, in file order
abbrev pub defined_after : List Statement → List Statement → List Symbol
defined_after before [] = []
defined_after before (s ∷ ss) = cons_option (defines before s.says) (defined_after (before ++ s ∷ []) ss)

-- all symbols that statements define, in file order, each once
abbrev pub defined : List Statement → List Symbol
defined ss = defined_after [] ss
