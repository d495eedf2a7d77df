-- What the proofs of this crate cite of definitions, of types and of the repository's crates, passed on from one place. Declares nothing.
pub use Rattle.definitions.proofs.TextLaws.{IsCharacter-from_scalar, IsScalar-from_character}
pub use Rattle.definitions.specs.Answers.{AreFolds, Diagnostic, IsSelection, diagnostic, range_of}
pub use Rattle.definitions.specs.DocumentNodes.{AreDocumentTrees, IsNodeOf}
pub use Rattle.definitions.specs.Items.{HasNoConflict}
pub use Rattle.definitions.specs.Nodes.{Below, Past, StandsIn, Top, all_branches, place_of}
pub use Rattle.definitions.specs.Sentences.{FaultAt, FaultAtEnd, HasTree, IsExpected, IsVerdict, IsViable, Verdict}
pub use Rattle.definitions.specs.Settled.{At, Down, IsSettled, Next, This, Way, WayAmong}
pub use Rattle.definitions.specs.Text.{IsCharacter, IsText, changed, offset}
pub use Rattle.definitions.specs.TokenEdits.{Splice, made, splice}
pub use Rattle.definitions.specs.Tokens.{AreTokens, Placed, Token, kinds}
pub use Rattle.definitions.specs.TreeEdits.{Built, IsKept, IsMoved, IsTouched, Kept, New, Nothing}
pub use Rattle.definitions.specs.Trees.{AreTrees, Branch, Cons, Forest, Grammar, HaveRoots, IsTree, Leaf, Nil, Tree, all_kinds, trees, yield, yields}
pub use Rattle.definitions.specs.declared.Edit.{Edit}
pub use Rattle.definitions.specs.declared.Kind.{Kind}
pub use Rattle.definitions.specs.declared.Kind.TheVariants.{Invalid}
pub use Rattle.definitions.specs.declared.Position.{Position}
pub use Rattle.definitions.specs.declared.Range.{Range}
pub use Rattle.definitions.specs.declared.Stats.{Stats}
pub use Rattle.definitions.specs.declared.Symbol.{Symbol}
pub use Rattle.definitions.specs.declared.Symbol.TheVariants.{Nonterminal, Rule as Terminal}
pub use Rattle.definitions.specs.declared.Unit.{Unit as Encoding}
pub use Rattle.definitions.specs.declared.expression.Expression.{Expression}
pub use Rattle.grammar.specs.Grammars.{FileGrammar}
pub use Rattle.readings.specs.Answers.{AlwaysAnswers, AnswersOnce, AreSelections, IsReading, Reading}
pub use Rattle.readings.specs.Diagnostics.{IsDiagnosis, IsFaultAfter, looks}
pub use Rattle.readings.specs.Edits.{AlwaysCounts, AreStats, CountsOnce, IsAbove, IsNext, Makes, ReportsLast, edit_of, number_after, without_nodes}
pub use Rattle.readings.specs.Layers.{LayersAnswer}
pub use Rattle.readings.specs.Texts.{LastEdit, OpenDocument, fits}
pub use Rattle.readings.specs.Contents.{AreFoldsOf, IsSelectionOf, placed_parts}
pub use Rattle.theory.proofs.MadeIsBuilt.{not_in_leaf}
pub use Rattle.theory.proofs.ReuseIsExact.{stands_split}
pub use Rattle.theory.proofs.Stack.{nowhere, stands_in_prefix}
pub use Rattle.theory.proofs.TreeEditLemmas.{one_built}
