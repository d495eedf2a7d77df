-- Which text is the file of which grammar.
use Rattle.std.specs.Prelude.{◌≡◌, ℕ, ◌<◌, List, length, map}
use Rattle.std.specs.Str.{chars}
use Rattle.definitions.specs.declared.Symbol.{Symbol}
use Rattle.definitions.specs.declared.Symbol.TheVariants.{Nonterminal}
use Rattle.definitions.specs.declared.expression.Expression.{Expression}
use Rattle.definitions.specs.Sentences.{IsProductive}
use Rattle.grammar_line.specs.Statements.{Statement, statements}
use Rattle.grammar_file.specs.Contents.{rules, nonterminals, defined}
use Rattle.grammar_file.specs.WrittenOut.{written_out}
use Rattle.grammar.specs.Contents.{rule_names, is_fold, grammar_of}
use Rattle.grammar_file.specs.Faults.{IsWhole, HaveReferents}
use Rattle.grammar.specs.Grammars.{FileGrammar}
use Rattle.grammar_file.specs.Kept.{ArePatterns}

-- what statements define, with these patterns of their rules, and these symbols defined on lines of the file
abbrev pub grammar_with : List Statement → List Expression → List Symbol → FileGrammar
grammar_with ss expressions symbols = record {
  names = map chars (rule_names ss);
  patterns = expressions;
  skips = map (λ r. r.skip) (rules ss);
  nonterminals = map chars (nonterminals ss);
  folds = map (λ w. is_fold w ss) (nonterminals ss);
  grammar = grammar_of ss;
  defined = symbols;
}

-- what a file of these statements defines: the grammar of those in which its marked words are written out, and the symbols that its own
-- lines define
abbrev pub file_grammar : List Statement → List Expression → FileGrammar
file_grammar ss expressions = grammar_with (written_out ss) expressions (defined ss)

-- the text is a file without a fault, and defines `f`: no line has a fault, each name that is used is defined, each rule has a pattern, and
-- each nonterminal is productive
pub record IsGrammarOf (text : List ℕ) (f : FileGrammar) : Type 0 where
  pub whole : IsWhole text
  pub referents : HaveReferents (statements text) (statements text)
  pub patterns : ArePatterns (rules (statements text)) f.patterns
  pub productive : (n : ℕ) → n < length (nonterminals (written_out (statements text)))
      → IsProductive (grammar_of (written_out (statements text))) (Nonterminal n)
  pub is : f ≡ file_grammar (statements text) f.patterns
