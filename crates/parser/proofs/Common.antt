-- What the proofs of this crate cite of definitions, of types and of the repository's crates, passed on from one place. Declares nothing.
pub use Rattle.definitions.specs.DocumentNodes.{AreDocumentTrees, IsNodeOf}
pub use Rattle.definitions.specs.Items.{Accept, HasItem, HasMove, HasNoConflict, Move, Reduce, Shift}
pub use Rattle.definitions.specs.Nodes.{Below, Past, StandsIn, Top, all_branches, branches, place_of}
pub use Rattle.definitions.specs.Sentences.{AllProductive, FaultAt, FaultAtEnd, HasTree, IsTreeOf, IsVerdict, Verdict, Verdict as Answer}
pub use Rattle.definitions.specs.Settled.{IsSettled, IsSettledIn}
pub use Rattle.definitions.specs.TokenEdits.{Splice, plain_splice, spliced}
pub use Rattle.definitions.specs.TreeEdits.{AreStampedExactly, Built, IsKept, IsMoved, IsTouched, Kept, LiesInKept, New, Nothing, Stamped, StampedBelow, StampedBranch, StampedCons, StampedForest, StampedIn, StampedLeaf, StampedNil, StampedPast, StampedTop}
pub use Rattle.definitions.specs.TreeEdits.{plain, plain as plain_tree, plain_all, plain_trees, stamped_trees}
pub use Rattle.definitions.specs.Trees.{AreTrees, Branch, Cons, Forest, Grammar, HasProduction, HaveRoots, IsTree, Leaf, Nil, Tree, all_kinds, trees, yield, yields}
pub use Rattle.definitions.specs.declared.Kind.{Kind}
pub use Rattle.definitions.specs.declared.Kind.TheVariants.{Invalid, Rule, Rule as TokenRule}
pub use Rattle.definitions.specs.declared.Symbol.{Symbol}
pub use Rattle.definitions.specs.declared.Symbol.TheVariants.{Nonterminal, Rule as Terminal}
pub use Rattle.parser.specs.Changes.{IsParseAfter}
pub use Rattle.parser.specs.Compact.{IsSameParse, node_ids, renamed}
pub use Rattle.parser.specs.Cuts.{AreChildren, Here, IsSplitAt, Used_up, Whole, kinds_in}
pub use Rattle.parser.specs.FirstInput.{BeginsWithNoNode, IsOffer, IsReusable, Offers}
pub use Rattle.parser.specs.Input.{AreParts, BeginsWith, IsFull, IsInput, IsOpened, IsPart, Skips, backwards, before_leaves, input_of, leaves}
pub use Rattle.parser.specs.Machine.{AreMadeBy, HasMade, HasStates, IsMadeBy, plain_of}
pub use Rattle.parser.specs.Parses.{AreExpectedAt, AreStacked, AreUpTo, IsParseOf, IsStop, IsStoppedAt, Stop, all_branches_by, before_fault, branches_by, branches_of_by, last_leaf, verdict_in, verdict_of}
pub use Rattle.parser.specs.Run.{AreStampedBy, CameFrom, ComeFrom, IsEdge, IsMadeByRun, MoveFrom, SoFar, makes}
pub use Rattle.parser.specs.Stamps.{AreOlder, KeepStamps, StampsKept, all_numbered, numbered, numbered_in}
pub use Rattle.parser.specs.declared.machine.FirstInput.{FirstInput}
pub use Rattle.parser.specs.declared.machine.FirstInput.TheVariants.{Next, Next as OffersNext, Tree as OffersTree}
pub use Rattle.parser.specs.declared.machine.Halt.{Halt}
pub use Rattle.parser.specs.declared.machine.Halt.TheVariants.{Accepted, FaultAt as HaltsAt, FaultAtEnd as HaltsAtEnd}
pub use Rattle.parser.specs.declared.parse.Verdict.TheVariants.{FaultAt as StopsAt, FaultAtEnd as StopsAtEnd, Tree as TreeAt}
pub use Rattle.tables.specs.Actions.{plain as plain_move}
pub use Rattle.tables.specs.Expected.{AreExpected}
pub use Rattle.tables.specs.Tables.{IsAccepted, IsAction, IsStateOf, Sets}
pub use Rattle.tables.specs.declared.decisions.Move.{Move as TableMove}
pub use Rattle.theory.proofs.Incremental.{goes_on_passes}
pub use Rattle.theory.proofs.KeptIsReused.{TakesOver, branches-append, branches-trees, stands_branches, stands_length}
pub use Rattle.theory.proofs.LawProofs.{exact}
pub use Rattle.theory.proofs.Lists.{ends_equal}
pub use Rattle.theory.proofs.MadeIsBuilt.{goes_on_join, join_makes, join_takes, made_or_taken, not_both, not_in_leaf, stamped_stands, stands_inside}
pub use Rattle.theory.proofs.ReuseIsExact.{EachTaken, TakenIsKept, closed, stands_split, taken_is_kept}
pub use Rattle.theory.proofs.Sets.{goto_there}
pub use Rattle.theory.proofs.Simulation.{length-roots, roots-append, run_join}
pub use Rattle.theory.proofs.Stack.{Handle, accepted_tree, handle, nowhere, reduces_roots, stands_after, stands_in_prefix}
pub use Rattle.theory.proofs.StackIsRead.{kinds-append, kinds-trees}
pub use Rattle.theory.proofs.Theorems.{last_of, read_settled, settled_run}
pub use Rattle.theory.proofs.TreeEditLemmas.{one_built}
pub use Rattle.theory.proofs.Unique.{production_unique, root_unique, roots_unique, run_split}
pub use Rattle.theory.proofs.Verdicts.{stuck_at_end, stuck_at_kind, verdict_at_end, verdict_at_kind}
pub use Rattle.theory.specs.Laws.{AreAnswer}
pub use Rattle.theory.specs.Machine.{IsStackAfter, Reduces, Run, Shifted, Shifts, StackHasMove, Stay, look_at}
pub use Rattle.theory.specs.Reuse.{AtEnd, AtToken, At_token, CanReuse, Dropped, Ends, Goes_on, IsNoTree, IsPrepared, Makes, MakesAt, NextInput, Nothing_left, Opened, Passed, Reuses, Take, Takes_token, Tries}
pub use Rattle.trees.proofs.Cells.{all_below-more, below-at, from-length, grown-new, grown-tree, grown-trees, take-tree}
pub use Rattle.trees.specs.Cells.{AreBelow, Cell, IsGrown, KeepsTrees, all_trees, branch_of, forest_in, forest_of, most, tree, tree_of, trees_from, trees_of}
pub use Rattle.trees.specs.Compaction.{nodes, sizes}
pub use Rattle.trees.specs.declared.store.Child.{Child}
pub use Rattle.trees.specs.declared.store.Child.TheVariants.{Node, Token, Token as TokenChild}
pub use Rattle.trees.specs.declared.store.NodeId.{NodeId}
