-- What the proofs of this crate cite of definitions, of types and of the repository's crates, passed on from one place. Declares nothing.
pub use Rattle.definitions.specs.Answers.{kind_name}
pub use Rattle.definitions.specs.Sentences.{IsProductive, IsUsed, On_right, The_start}
pub use Rattle.definitions.specs.Trees.{AreTrees, Branch, Cons, Forest, Grammar, HasDistinctProductions, HasProduction, IsTree, Leaf, Nil, Production as Production', Tree}
pub use Rattle.definitions.specs.declared.Kind.TheVariants.{Invalid, Rule as Token}
pub use Rattle.definitions.specs.declared.Symbol.{Symbol}
pub use Rattle.definitions.specs.declared.Symbol.TheVariants.{Nonterminal, Rule as Terminal}
pub use Rattle.definitions.specs.declared.expression.Expression.{Expression}
pub use Rattle.definitions.specs.declared.expression.PatternFault.{PatternFault}
pub use Rattle.grammar.specs.Contents.{first_of, folds_name, grammar_of, is_fold, production_of, rule_names, symbol_of}
pub use Rattle.grammar.specs.Faults.{IsFault, IsFirstProduction, file_fault, is_production_of, unproductive}
pub use Rattle.grammar.specs.Grammars.{FileGrammar, IsGrammar, IsKnown, IsUsable}
pub use Rattle.grammar.specs.Marks.{AllProductiveIn, AreBelow, AreComplete, AreSound, IsClosed, IsFirstUnmarked, IsNext, IsUnproductiveIn, are_marked, is_marked, is_ready}
pub use Rattle.grammar.specs.Meaning.{IsGrammarOf, file_grammar, grammar_with}
pub use Rattle.grammar.specs.Notes.{AreNotes, is_rule, is_skip, none, noted_symbol, skipped, used}
pub use Rattle.grammar.specs.Parts.{AreParts, AreProductive, IsUnproductive}
pub use Rattle.grammar.specs.Uses.{AreAllUsed, AreOnlyUsed, AreUsed, AreWithin, IsReached, IsSpread}
pub use Rattle.grammar.specs.declared.read.Parts.{Parts}
pub use Rattle.grammar_file.proofs.Lines.{nonterminals-step, rules-step}
pub use Rattle.grammar_file.proofs.OneMoreItem.{push_at}
pub use Rattle.grammar_file.proofs.Splits.{length-texts, productions_more, said_split}
pub use Rattle.grammar_file.proofs.TestedItems.{list_any-map}
pub use Rattle.grammar_file.specs.Causes.{Reports}
pub use Rattle.grammar_file.specs.Contents.{ProductionLine, RuleLine, as_production, as_rule, as_start, defined, defined_after, defines, is_among, nonterminals, number_of, productions, rules, starts, with_name}
pub use Rattle.grammar_file.specs.Faults.{AreFaultless, Cause, DefinedTwice, HasPattern, HasPatternFault, HaveReferents, IsFaultless, IsFileFault, IsLineFault, IsWhole, NotANonterminal, Unproductive}
pub use Rattle.grammar_file.specs.Faults.{cause_if, early_fault, first_line, has_production, has_rule, is_production, is_skip_rule, line, no_start, or_else, reference, reference_fault, reserved, right_fault, symbol_fault, too_large}
pub use Rattle.grammar_file.specs.Kept.{AreFew, AreNames, ArePatterns, IsWrittenOut, lines_view, rule_line, statement_of, with_left, with_rule}
pub use Rattle.grammar_file.specs.WrittenOut.{added, marked, right_sides, written_out}
pub use Rattle.grammar_file.specs.declared.fault.GrammarFault.{GrammarFault}
pub use Rattle.grammar_file.specs.declared.names.Names.{Names}
pub use Rattle.grammar_file.specs.declared.statements.File.{File}
pub use Rattle.grammar_file.specs.declared.statements.Numbered.{Numbered}
pub use Rattle.grammar_line.proofs.Marked.{name_unmarked}
pub use Rattle.grammar_line.specs.Kept.{texts}
pub use Rattle.grammar_line.specs.Statements.{Bad, Fold, Line, Nothing, Production, Rule, Start, Statement, at, is_comment, is_right_word, line_of, line_of_words, longer_line, numbered, production, rule, statement, statements, statements_in, version_of}
pub use Rattle.grammar_line.specs.Words.{Word, after_equals, is_mark, is_name, mark_of, plain, without_last, words}
pub use Rattle.grammar_line.specs.declared.line.Version.{Version}
pub use Rattle.grammar_line.specs.declared.line.Version.TheVariants.{One}
pub use Rattle.grammar_line.specs.declared.right_word.Mark.{Mark}
pub use Rattle.grammar_line.specs.declared.right_word.Mark.TheVariants.{Any, AtLeastOnce, AtMostOnce, Once}
pub use Rattle.patterns.proofs.Runs.{refused}
