-- What the proofs of this crate cite of definitions, of types and of the repository's crates, passed on from one place. Declares nothing.
pub use Rattle.definitions.proofs.Ordered.{Contains-cases, Contains-first, Contains-later, Contains-none}
pub use Rattle.definitions.specs.Derivations.{IsLr1, first}
pub use Rattle.definitions.specs.Items.{Accept, CallsFor, HasItem, HasMoreSetsThan, HasMove, HasNoConflict, HaveSameItems, IsConflict, IsValid, Item as LrItem, Move as LrMove, Reduce, Shift as LrShift, kind_of}
pub use Rattle.definitions.specs.Sentences.{AllProductive, FaultAt, FaultAtEnd, HasTree, IsExpected, IsProductive, IsSentence, IsTreeOf, IsVerdict, IsViable, Verdict}
pub use Rattle.definitions.specs.Trees.{AreTrees, Branch, Cons, Forest, Grammar, HasDistinctProductions, HaveRoots, IsTree, Leaf, Nil, Production, Tree, yield, yields}
pub use Rattle.definitions.specs.declared.Kind.{Kind}
pub use Rattle.definitions.specs.declared.Kind.TheVariants.{Invalid, Rule as Token}
pub use Rattle.definitions.specs.declared.Symbol.{Symbol}
pub use Rattle.definitions.specs.declared.Symbol.TheVariants.{Nonterminal, Rule as Terminal}
pub use Rattle.productions.proofs.Columns.{column_there, lookahead_at-rule, lookahead_small, rank-lookahead_at}
pub use Rattle.productions.proofs.EachMore.{each_more}
pub use Rattle.productions.proofs.SymbolNumbers.{symbol_of-number}
pub use Rattle.productions.specs.Lookaheads.{lookahead_at, rank}
pub use Rattle.productions.specs.Productions.{IsKnown, IsSound, Shape}
pub use Rattle.productions.specs.Symbols.{number}
pub use Rattle.grammar.specs.Grammars.{FileGrammar, IsGrammar, IsUsable}
pub use Rattle.item_sets.proofs.AddedKernels.{no_item}
pub use Rattle.item_sets.proofs.FirstKernel.{same_sets, start_item, start_kernel}
pub use Rattle.item_sets.proofs.GotosGrow.{step_goes_on}
pub use Rattle.item_sets.proofs.InRange.{after_first_known, in_known}
pub use Rattle.item_sets.proofs.Ordered.{rising_same}
pub use Rattle.item_sets.proofs.Valid.{set_complete}
pub use Rattle.item_sets.specs.Collection.{AreStates, Found, GoesOn, IsReached, IsRow, IsStep, kernel_at}
pub use Rattle.item_sets.specs.Order.{IsInside, IsOrdered}
pub use Rattle.item_sets.specs.Sets.{IsItem, item_of, side}
pub use Rattle.item_sets.specs.States.{HasKernel, HasSet}
pub use Rattle.item_sets.specs.declared.item.Item.{Item}
pub use Rattle.tables.specs.Actions.{AddsMoves, AreAllMoves, AreMade, AreMoves, IsClashAt, IsMoveAt, IsOnlyMove, Made, plain}
pub use Rattle.tables.specs.Decidable.{AreMovesDecided}
pub use Rattle.tables.specs.Expected.{AreExpected, in_file_order, rules_with_move}
pub use Rattle.tables.specs.Faults.{IsConflictOf, IsRight, RefutesLr1}
pub use Rattle.tables.specs.Gotos.{AreGotos, HasSteps}
pub use Rattle.tables.specs.Moves.{IsCall, IsDecision, SoFar, move_of}
pub use Rattle.tables.specs.Rows.{AreChosen, IsChosen, IsClash, IsDecided, chosen}
pub use Rattle.tables.specs.Tables.{AreTables, IsAccepted, IsAction, IsRightAt, IsStateOf, Sets, follower, goto_at, move_at, next_state, seen, shifted_to, state_from}
unfoldable pub use Rattle.tables.specs.Tables.{state_after}
pub use Rattle.tables.specs.declared.decisions.Decided.{Decided}
pub use Rattle.tables.specs.declared.decisions.Decided.TheVariants.{Clash, Clash as AClash, Moves}
pub use Rattle.tables.specs.declared.decisions.Move.{Move, Move as TableMove}
pub use Rattle.tables.specs.declared.decisions.Move.TheVariants.{Shift}
pub use Rattle.tables.specs.declared.moves.Call.{Call}
pub use Rattle.tables.specs.declared.moves.Call.TheVariants.{Shift as ToShift}
pub use Rattle.tables.specs.declared.moves.Decision.{Decision}
pub use Rattle.tables.specs.declared.moves.Decision.TheVariants.{Agreed, Conflict, Nothing}
pub use Rattle.tables.specs.declared.progress.ClashAt.{ClashAt}
pub use Rattle.tables.specs.declared.tables.TableFault.{TableFault}
pub use Rattle.tables.specs.declared.tables.TableFault.TheVariants.{Memory, TooManySets}
pub use Rattle.theory.proofs.Knuth.{lr1_no_conflict, no_conflict_lr1}
pub use Rattle.theory.proofs.LawProofs.{stack_exists}
pub use Rattle.theory.proofs.OneTree.{one_tree_of_used}
pub use Rattle.theory.proofs.Rules.{rules_valid, valid_rules}
pub use Rattle.theory.proofs.Sets.{all_sets, goto_from}
pub use Rattle.theory.proofs.Simulation.{roots-append}
pub use Rattle.theory.proofs.Theorems.{move_iff_sentence, move_iff_viable}
pub use Rattle.theory.proofs.Unique.{roots_unique}
pub use Rattle.theory.proofs.Verdicts.{verdict_at_end, verdict_at_kind}
pub use Rattle.theory.specs.Closure.{ByRules, Close, Goto, IsKernel, Start}
pub use Rattle.theory.specs.Laws.{HasOneTreeEach}
pub use Rattle.theory.specs.Machine.{IsStackAfter, StackHasMove, Stay}
