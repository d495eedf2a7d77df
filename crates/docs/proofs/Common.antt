-- What the proofs of this crate cite of definitions, of types and of the repository's crates, passed on from one place. Declares nothing.
pub use Rattle.definitions.proofs.Characters.{IsText-chars, IsText-edit}
pub use Rattle.definitions.proofs.TokensKept.{drop-edit, length-edit}
pub use Rattle.definitions.specs.Answers.{AreFolds, Diagnostic as Fault, IsSelection, Node}
pub use Rattle.definitions.specs.DocumentNodes.{AreDocumentTrees, IsNodeOf}
pub use Rattle.definitions.specs.Nodes.{StandsIn, all_branches, branches, branches_of}
pub use Rattle.definitions.specs.Sentences.{IsVerdict, IsViable, Verdict as Answered}
pub use Rattle.definitions.specs.Text.{IsText, edit, offset, span}
unfoldable pub use Rattle.definitions.specs.Text.{changed}
pub use Rattle.definitions.specs.TokenEdits.{Splice, kept_before, made, rejoin, splice}
pub use Rattle.definitions.specs.Tokens.{Placed, is_skipped, kinds}
pub use Rattle.definitions.specs.TreeEdits.{AreStampedExactly, Built, IsKept, Kept, New, Nothing, Stamped, StampedBranch, StampedCons, StampedForest, StampedLeaf, StampedNil, plain as plain_tree, plain_trees}
pub use Rattle.definitions.specs.Trees.{Branch, Forest, Grammar, HaveRoots, Leaf, Tree, all_kinds, yield}
pub use Rattle.definitions.specs.declared.Diagnostic.{Diagnostic as Stored}
pub use Rattle.definitions.specs.declared.Edit.{Edit}
pub use Rattle.definitions.specs.declared.Kind.{Kind}
pub use Rattle.definitions.specs.declared.Position.{Position}
pub use Rattle.definitions.specs.declared.Range.{Range}
pub use Rattle.definitions.specs.declared.Stats.{Stats}
pub use Rattle.definitions.specs.declared.Unit.{Unit as Encoding}
pub use Rattle.docs.specs.Docs.{IsCurrent, last_edit, open_document}
pub use Rattle.docs.specs.Faults.{doc_fault}
pub use Rattle.docs.specs.Pending.{IsApart, joined, next_pending, number_or, pending_number}
pub use Rattle.docs.specs.Settling.{IsSettled, LeadsTo}
pub use Rattle.docs.specs.Stamps.{AreStamped, splice_between}
pub use Rattle.docs.specs.declared.doc.Doc.{Doc}
pub use Rattle.docs.specs.declared.doc.DocFault.{DocFault}
pub use Rattle.docs.specs.declared.doc.DocFault.TheVariants.{Memory, TooLarge}
pub use Rattle.grammar.specs.Grammars.{FileGrammar, lexicon_of}
pub use Rattle.docs.specs.Languages.{HasAutomaton, IsLanguageOf, LanguageData}
pub use Rattle.lexer.specs.Rescans.{AreRescanned, plain_all, significant_kinds}
pub use Rattle.lexer.specs.Tokens.{AreTokensOf, is_significant, kind_in, plain, plain as plain_token}
pub use Rattle.lexer.specs.declared.sums.Token.{Token}
pub use Rattle.parser.proofs.Counts.{none_by, older_by}
pub use Rattle.parser.specs.Machine.{AreMadeBy, IsMadeBy, plain_of}
pub use Rattle.parser.specs.Parses.{AreStacked, AreUpTo, IsParseOf, all_branches_by, before_fault, branches_by, branches_of_by, last_leaf, verdict_in}
pub use Rattle.parser.specs.Stamps.{AreOlder, KeepStamps}
pub use Rattle.parser.specs.declared.parse.Verdict.{Verdict}
pub use Rattle.parser.specs.declared.parse.Verdict.TheVariants.{FaultAt, FaultAtEnd, Tree as TreeAt}
pub use Rattle.readings.proofs.Results.{if_ok_both}
pub use Rattle.readings.proofs.Texts.{fits_from, large_from, spelled_large, too_long}
pub use Rattle.readings.specs.Answers.{AreSelections, IsReading, IsReported, Reading, Reads, rows, written_tree}
pub use Rattle.readings.specs.Diagnostics.{IsDiagnosis, shown as fault_of}
pub use Rattle.readings.specs.Edits.{AreStats, IsAbove, IsNext, ReportsLast, edit_of, number_after, number_of}
pub use Rattle.readings.specs.Layers.{LayersAnswer}
pub use Rattle.readings.specs.Texts.{LastEdit, fits}
pub use Rattle.readings.specs.Contents.{AreFoldsOf, IsSelectionOf, placed_parts}
pub use Rattle.views.specs.Roots.{AreRootsOf, trees_of_roots}
pub use Rattle.views.specs.Views.{text_of}
pub use Rattle.tables.specs.Decidable.{AreMovesDecided}
pub use Rattle.tables.specs.Tables.{IsAccepted, Sets}
pub use Rattle.text.specs.declared.document.TextFault.{TextFault}
pub use Rattle.theory.proofs.MadeIsBuilt.{not_in_leaf}
pub use Rattle.theory.proofs.ReuseIsExact.{stands_split}
pub use Rattle.theory.proofs.Stack.{nowhere, stands_in_prefix}
pub use Rattle.trees.specs.Cells.{Cell, all_trees, forest_in, forest_of, tree, tree_of, trees_of}
pub use Rattle.trees.specs.declared.store.Child.{Child}
pub use Rattle.trees.specs.declared.store.Child.TheVariants.{Node as NodeChild}
pub use Rattle.trees.specs.declared.store.NodeId.{NodeId}
pub use Rattle.definitions.specs.Items.{HasMoreSetsThan, HasNoConflict}
pub use Rattle.tables.specs.Faults.{IsRight}
pub use Rattle.tables.specs.declared.tables.TableFault.{TableFault}
pub use Rattle.tables.specs.declared.tables.TableFault.TheVariants.{Conflict}
pub use Rattle.tables.specs.Reports.{IsReport}
pub use Rattle.tables.specs.declared.conflict.Conflict.{Conflict as Shown}
