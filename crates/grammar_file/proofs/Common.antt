-- What the proofs of this crate cite of definitions, of types and of the repository's crates, passed on from one place. Declares nothing.
pub use Rattle.definitions.specs.Spelling.{IsPattern}
pub use Rattle.definitions.specs.declared.Symbol.{Symbol}
pub use Rattle.definitions.specs.declared.Symbol.TheVariants.{Nonterminal, Rule as Terminal}
pub use Rattle.definitions.specs.declared.expression.Expression.{Expression}
pub use Rattle.grammar_file.specs.Causes.{Reports, ReportsCause}
pub use Rattle.grammar_file.specs.Contents.{ProductionLine, RuleLine, as_production, defines, is_among, nonterminals, number_of, productions, rules, with_name}
pub use Rattle.grammar_file.specs.Faults.{AreFaultless, Cause, HasPattern, HaveReferents, IsFaultless, IsFileFault, IsFirstLineFault, IsFirstReferenceFault, IsLineFault, IsWhole, NoStart, SkipInProduction, Undefined}
pub use Rattle.grammar_file.specs.Faults.{cause_if, early_fault, exceeded_limit, first_line, has_production, has_rule, is_production, is_skip_rule, late_fault, limit_fault}
pub use Rattle.grammar_file.specs.Faults.{line, line_limit, no_start, nonterminal_count, or_else, production_count, reference, reference_fault, reserved, right_fault, symbol_fault, too_large}
pub use Rattle.grammar_file.specs.Kept.{AreFew, AreNames, ArePatterns, HasMeanings, IsPatternOf, IsRead, IsWrittenOut, are_among, lines_view, rule_line, statement_of, with_left, with_names, with_pattern, with_production, with_right, with_rule, with_sides, with_start}
pub use Rattle.grammar_file.specs.Meanings.{AreMeanings, meaning_in, meaning_of, unknown}
pub use Rattle.grammar_file.specs.Numbers.{AreNumbers}
pub use Rattle.grammar_file.specs.WrittenOut.{added, marked, with_marked}
pub use Rattle.grammar_file.specs.declared.fault.GrammarFault.{GrammarFault}
pub use Rattle.grammar_file.specs.declared.meanings.Meaning.{Meaning}
pub use Rattle.grammar_file.specs.declared.names.Names.{Names}
pub use Rattle.grammar_file.specs.declared.statements.File.{File}
pub use Rattle.grammar_file.specs.declared.statements.Numbered.{Numbered}
pub use Rattle.grammar_line.specs.Kept.{line_view, texts}
pub use Rattle.grammar_line.specs.Statements.{Bad, Fold, Line, Nothing, Production, Rule, Start, Statement, at, is_headed, line_of, numbered, statements, statements_in, version_of}
pub use Rattle.grammar_line.specs.Words.{Word, is_marked, plain}
pub use Rattle.grammar_line.specs.declared.line.Version.{Version}
pub use Rattle.grammar_line.specs.declared.line.Version.TheVariants.{One}
