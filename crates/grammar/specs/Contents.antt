-- The grammar that the statements of a file define, in numbers.
use Rattle.std.specs.Prelude.{Bool, false, if◌then◌else◌, List, [], ◌∷◌, length, map}
use Rattle.std.specs.List.{list_any}
use Rattle.std.specs.Str.{bytes_eq}
use Rattle.definitions.specs.declared.Symbol.{Symbol}
use Rattle.definitions.specs.declared.Symbol.TheVariants.{Rule as Terminal, Nonterminal}
use Rattle.definitions.specs.Trees.{Production as Production', Grammar}
use Rattle.grammar_line.specs.Words.{Word}
use Rattle.grammar_line.specs.Statements.{Line, Fold, Statement}
use Rattle.grammar_file.specs.Contents.{ProductionLine, rules, productions, starts, nonterminals, is_among, number_of}

-- `folds_name w line`: whether the line folds this name
abbrev pub folds_name : Word → Line → Bool
folds_name w (Fold name) = bytes_eq name w
folds_name w _ = false

-- whether some line folds the name
abbrev pub is_fold : Word → List Statement → Bool
is_fold w ss = list_any (λ s. folds_name w s.says) ss

-- the names of the token and skip rules, in file order
abbrev pub rule_names : List Statement → List Word
rule_names ss = map (λ r. r.name) (rules ss)

-- the symbol of a name, by its number
abbrev pub symbol_of : List Word → List Word → Word → Symbol
symbol_of nonterminals rules w = if is_among w nonterminals then Nonterminal (number_of w nonterminals) else Terminal (number_of w rules)

-- a production's line in numbers
abbrev pub production_of : List Word → List Word → ProductionLine → Production'
production_of nonterminals rules p = record { left = number_of p.left nonterminals; right = map (symbol_of nonterminals rules) p.right }

-- `first_of ws`: the first word, and the empty word where there is none
abbrev pub first_of : List Word → Word
first_of [] = []
first_of (w ∷ ws) = w

-- the grammar that statements define, in numbers
abbrev pub grammar_of : List Statement → Grammar
grammar_of ss = record {
  start = number_of (first_of (starts ss)) (nonterminals ss);
  rules = length (rules ss);
  productions = map (production_of (nonterminals ss) (rule_names ss)) (productions ss);
}
