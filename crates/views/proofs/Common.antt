-- What the proofs of this crate cite of definitions, of types and of the repository's crates, passed on from one place. Declares nothing.
pub use Rattle.definitions.proofs.Characters.{encodes-chars}
pub use Rattle.definitions.proofs.OffsetOfPosition.{ended, ended-cons}
pub use Rattle.definitions.proofs.Ordered.{Contains-cases, Contains-first, Contains-later, Contains-none}
pub use Rattle.definitions.proofs.PastTheEnd.{position-min}
pub use Rattle.definitions.proofs.Significant.{map-significant}
pub use Rattle.definitions.proofs.TokensLead.{chars, chars-cons}
pub use Rattle.definitions.proofs.TokensUnique.{IsPiece-inside}
pub use Rattle.definitions.specs.Answers.{AreCovering, AreFolds, Covers, Diagnostic, Encloses, IsBefore, Node, SpansLines, end_of, fault_span, kind_name, listed, name_or_end, range_of, shortened, span}
unfoldable pub use Rattle.definitions.specs.Answers.{message}
pub use Rattle.definitions.specs.DocumentNodes.{IsNodeOf, tree_texts}
pub use Rattle.definitions.specs.Nodes.{Below, Past, StandsIn, Top, all_branches, branches, place_of}
pub use Rattle.definitions.specs.Text.{break_ends}
unfoldable pub use Rattle.definitions.specs.Text.{line_of, position}
pub use Rattle.definitions.specs.Tokens.{AreTokens, Placed, Token as PlainToken, is_skipped, kinds, placed, significant}
pub use Rattle.definitions.specs.TreeEdits.{Stamped, StampedBranch, StampedForest, plain_all, plain_trees}
pub use Rattle.definitions.specs.Trees.{AreTrees, Branch, Cons, Forest, Grammar, HasProduction, HaveRoots, IsTree, Leaf, Nil, Production, Tree, all_kinds, left_of, trees, yield, yields}
pub use Rattle.definitions.specs.declared.Kind.{Kind}
pub use Rattle.definitions.specs.declared.Kind.TheVariants.{Invalid, Rule}
pub use Rattle.definitions.specs.declared.Range.{Range}
pub use Rattle.definitions.specs.declared.Row.{Row as SharedRow}
pub use Rattle.definitions.specs.declared.Symbol.{Symbol}
pub use Rattle.definitions.specs.declared.Symbol.TheVariants.{Nonterminal, Rule as Terminal}
pub use Rattle.definitions.specs.declared.Unit.{Unit as Encoding}
pub use Rattle.definitions.specs.declared.Unit.TheVariants.{Utf16}
pub use Rattle.definitions.specs.declared.expression.Expression.{Expression}
pub use Rattle.grammar.specs.Grammars.{FileGrammar, lefts, lexicon_of}
pub use Rattle.lexer.proofs.Boundaries.{length-plain}
pub use Rattle.lexer.proofs.Remakes.{chars-plain, plain-take, tokens_length}
pub use Rattle.lexer.proofs.SignificantKinds.{kinds_plain, length-kinds}
pub use Rattle.lexer.proofs.Totals.{characters-cons, count-cons, length-le-characters, tot, total_characters, total_significant}
pub use Rattle.lexer.specs.Rescans.{significant_kinds}
pub use Rattle.lexer.specs.Tokens.{AreTokensOf, characters, is_significant, kind_in, plain}
pub use Rattle.lexer.specs.declared.sums.Sums.{Sums}
pub use Rattle.lexer.specs.declared.sums.Token.{Token, Token as Stored}
pub use Rattle.views.specs.Around.{Holds, IsAround, IsBranchAround, IsSpanOf, branch_at, ends_at, inside, is_around, is_same, offsets_of, spans_all, spans_in, spans_of, starts_at}
pub use Rattle.readings.specs.Contents.{AreFoldsOf, IsSelectionOf, placed_parts}
pub use Rattle.views.specs.Roots.{AreRootsOf, trees_of_roots}
pub use Rattle.views.specs.Folds.{AreAscending, AreSpanned, IsFold, SpanLines, line_at, lines_of, with_own}
pub use Rattle.views.specs.NodesFrom.{IsNodeFrom}
pub use Rattle.views.specs.Views.{IsBegun, in_utf8, rest_text, row_bytes, rows_from, rows_of, shared_bytes, text_of}
pub use Rattle.views.specs.declared.foldable.Siblings.{Siblings}
pub use Rattle.views.specs.declared.rows.Row.{Row}
pub use Rattle.views.specs.declared.selections.Branch.{Branch as Found}
pub use Rattle.views.specs.declared.selections.Point.{Point}
pub use Rattle.text.specs.Places.{Place}
pub use Rattle.theory.proofs.KeptIsReused.{branches-trees}
pub use Rattle.theory.proofs.ReuseIsExact.{stands_split}
pub use Rattle.theory.proofs.Simulation.{roots-trees}
pub use Rattle.theory.proofs.Stack.{nowhere, stands_after, stands_in_prefix, stands_kinds}
pub use Rattle.theory.proofs.StackIsRead.{kinds-append, kinds-trees}
pub use Rattle.theory.proofs.Unique.{production_unique}
pub use Rattle.trees.proofs.Cells.{all_below-more}
pub use Rattle.trees.specs.Cells.{AreBelow, Cell, IsBelow, forest_of, most, tree, tree_of, trees_from, trees_of}
pub use Rattle.trees.specs.declared.store.Child.{Child}
pub use Rattle.trees.specs.declared.store.NodeId.{NodeId}
pub use Rattle.definitions.specs.Sentences.{IsVerdict}
pub use Rattle.parser.specs.declared.parse.Verdict.{Verdict}
pub use Rattle.parser.specs.declared.parse.Verdict.TheVariants.{FaultAt, FaultAt as StopsAt, FaultAtEnd, FaultAtEnd as StopsAtEnd}
pub use Rattle.parser.specs.Parses.{AreExpectedAt, IsParseOf, Stop, verdict_in}
pub use Rattle.tables.specs.Expected.{AreExpected, in_file_order}
pub use Rattle.tables.specs.Tables.{Sets}
pub use Rattle.readings.specs.Diagnostics.{IsDiagnosis, IsFaultAfter, looks, shown}
