-- What the code keeps of the lines, in the words of the definitions.
use Rattle.std.specs.Prelude.{◌≡◌, ℕ, ◌+◌, ◌≤◌, Bool, true, if◌then◌else◌, nat_lt, Option, Some, None, slice_get, IsSomeAnd, List, []}
use Rattle.std.specs.Prelude.{◌∷◌, ◌++◌, length, map}
use Rattle.std.specs.Str.{bytes_eq, chars}
use Rattle.std.specs.List.{list_any}
use Rattle.std.specs.Cmp.Lexicographic.{pointwise}
use Rattle.definitions.specs.declared.expression.Expression.{Expression}
use Rattle.definitions.specs.Spelling.{IsPattern}
use Rattle.grammar_file.specs.declared.rules.RuleName.{RuleName}
use Rattle.grammar_file.specs.declared.names.Names.{Names}
use Rattle.grammar_file.specs.declared.statements.Numbered.{Numbered}
use Rattle.grammar_file.specs.declared.statements.File.{File}
use Rattle.grammar_line.specs.Kept.{line_view}
use Rattle.grammar_line.specs.Words.{Word}
use Rattle.grammar_line.specs.Statements.{Line, Production, Rule, Start, Statement}
use Rattle.grammar_file.specs.Contents.{RuleLine, ProductionLine, rules, productions, starts, nonterminals, with_name, defined}
use Rattle.grammar_file.specs.Meanings.{AreMeanings}
use Rattle.grammar_file.specs.WrittenOut.{with_marked, marked, written_out}
use Rattle.grammar_file.specs.Faults.{AreFaultless, has_production, nonterminal_count, production_count}

abbrev pub statement_of : Numbered → Statement
statement_of n = record { number = n.number; says = line_view n.line }

-- `lines_view lines`: the lines that the code keeps, as statements
abbrev pub lines_view : List Numbered → List Statement
lines_view ns = map statement_of ns

-- `rule_line rule`: a rule that the code keeps, as a rule's line
abbrev pub rule_line : RuleName → RuleLine
rule_line r = record { skip = r.skip; name = r.name.now; pattern = r.pattern.now }

-- these names, in this order, are one of the lists
abbrev pub are_among : List Word → List (List Word) → Bool
are_among ws all = list_any (λ vs. pointwise bytes_eq vs ws) all

-- the lists with these names after them, unless they are one of them
abbrev pub with_names : List (List Word) → List Word → List (List Word)
with_names all ws = if are_among ws all then all else all ++ ws ∷ []

-- what each name means by the nonterminals and rules that the code keeps is found by the name
abbrev pub HasMeanings : Names → Type 0
HasMeanings names = AreMeanings names.nonterminals names.rules names.meanings.by_name.entries

-- the names that the code keeps are those that the statements define
pub record AreNames (names : Names) (ss : List Statement) : Type 0 where
  pub meanings : HasMeanings names
  pub rules : names.rules ≡ rules ss
  pub nonterminals : names.nonterminals ≡ nonterminals ss
  pub marked : names.marked ≡ marked ss
  pub sides : (left : Word) (right : List Word) → are_among (left ∷ right) names.sides ≡ has_production ss left right
  pub productions : names.productions ≡ length (productions ss)
  pub started : names.started ≡ nat_lt 0 (length (starts ss))

-- what one line adds to them
abbrev pub with_rule : List RuleLine → Line → List RuleLine
with_rule rules (Rule skip name pattern) = rules ++ record { skip = skip; name = name; pattern = pattern } ∷ []
with_rule rules _ = rules

abbrev pub with_left : List Word → Line → List Word
with_left names (Production left right) = with_name names left
with_left names _ = names

abbrev pub with_right : List Word → Line → List Word
with_right names (Production left right) = with_marked names right
with_right names _ = names

abbrev pub with_sides : List (List Word) → Line → List (List Word)
with_sides all (Production left right) = with_names all (left ∷ right)
with_sides all _ = all

abbrev pub with_production : ℕ → Line → ℕ
with_production n (Production left right) = n + 1
with_production n _ = n

abbrev pub with_start : Bool → Line → Bool
with_start b (Start name) = true
with_start b _ = b

-- `ArePatterns rules expressions`: these are the expressions of the patterns of the rules, in order
abbrev pub ArePatterns : List RuleLine → List Expression → Type 0
ArePatterns [] [] = Unit {0}
ArePatterns [] (e ∷ es) = ⊥
ArePatterns (r ∷ rs) [] = ⊥
ArePatterns (r ∷ rs) (e ∷ es) = IsPattern (chars r.pattern) e × ArePatterns rs es

-- the statements pass no limit
pub record AreFew (ss : List Statement) : Type 0 where
  pub few_rules : length (rules ss) ≤ 256
  pub few_nonterminals : nonterminal_count ss ≤ 256
  pub few_productions : production_count ss ≤ 1024
  pub short : (k : ℕ) (p : ProductionLine) → slice_get (productions ss) k ≡ Some p → length p.right ≤ 16

-- the code keeps these statements, their names and patterns and what they define; they have no fault and pass no limit
pub record IsRead (file : File) (ss : List Statement) : Type 0 where
  pub statements : lines_view file.statements.items ≡ ss
  pub names : AreNames file.names ss
  pub patterns : ArePatterns (rules ss) file.patterns.items
  pub defined : file.defined.items ≡ defined ss
  pub faultless : AreFaultless ss
  pub few : AreFew ss

-- the code keeps these statements and after them the productions of their marked words, the names of all, and the patterns and what is
-- defined of the statements themselves; they pass no limit
pub record IsWrittenOut (file : File) (ss : List Statement) : Type 0 where
  pub statements : lines_view file.statements.items ≡ written_out ss
  pub names : AreNames file.names (written_out ss)
  pub patterns : ArePatterns (rules ss) file.patterns.items
  pub defined : file.defined.items ≡ defined ss
  pub few : AreFew ss

-- the expression of a rule's line, and none for another line
abbrev pub IsPatternOf : Line → Option Expression → Type 0
IsPatternOf (Rule skip name pattern) p = IsSomeAnd p (λ e. IsPattern (chars pattern) e)
IsPatternOf _ p = p ≡ None

-- the expressions with that of a line, if it has one
abbrev pub with_pattern : List Expression → Option Expression → List Expression
with_pattern es None = es
with_pattern es (Some e) = es ++ e ∷ []
