-- What the proofs of this crate cite of definitions, of types and of the repository's crates, passed on from one place. Declares nothing.
pub use Rattle.definitions.specs.Derivations.{Here, IsLr1, IsProduction, Reaches, Rightmost, Step, Then, first, terminals, tokens}
pub use Rattle.definitions.specs.DocumentNodes.{AreDocumentTrees}
pub use Rattle.definitions.specs.Items.{Accept, CallsFor, HasItem, HasMove, HasNoConflict, HaveSameItems, IsValid, Item, Move, Reduce, Shift, kind_of}
pub use Rattle.definitions.specs.Nodes.{Below, Past, StandsIn, Top, all_branches, branches, branches_of, place_of}
pub use Rattle.definitions.specs.Sentences.{AllProductive, FaultAt, FaultAtEnd, HasTree, IsProductive, IsSentence, IsTreeOf, IsUsed, IsVerdict, IsViable, On_right, The_start, Verdict}
pub use Rattle.definitions.specs.Settled.{At, Down, IsSettled, IsSettledIn, Next, This, Way, WayAmong}
pub use Rattle.definitions.specs.TokenEdits.{Splice}
pub use Rattle.definitions.specs.TreeEdits.{AreStampedExactly, Built, IsKept, Kept, LiesInKept, New, Nothing, Stamped, StampedBelow, StampedBranch, StampedCons, StampedForest, StampedIn, StampedLeaf, StampedNil, StampedPast, StampedTop, plain, plain_all, plain_trees, stamped_trees}
pub use Rattle.definitions.specs.Trees.{AreTrees, Branch, Cons, Forest, Grammar, HasDistinctProductions, HasProduction, HaveRoots, IsTree, Leaf, Nil, Production, Tree, all_kinds, forest, trees, yield, yields}
pub use Rattle.definitions.specs.declared.Kind.{Kind}
pub use Rattle.definitions.specs.declared.Kind.TheVariants.{Invalid, Rule as Token}
pub use Rattle.definitions.specs.declared.Symbol.{Symbol}
pub use Rattle.definitions.specs.declared.Symbol.TheVariants.{Nonterminal, Rule as Terminal}
pub use Rattle.theory.specs.Closure.{ByRules, Close, Goto, IsFirst, IsKernel, Start}
pub use Rattle.theory.specs.First.{After, At_once, Drop, InFirst, IsNullable, MayFollow, None_left, Within}
pub use Rattle.theory.specs.Laws.{AreAnswer, AreStampedByRun, StampsExactly}
pub use Rattle.theory.specs.Machine.{IsStackAfter, Reduced, Reduces, Run, Shifted, Shifts, StackHasMove, Stay, look_at}
pub use Rattle.theory.specs.Reuse.{AtEnd, AtToken, At_token, CanReuse, Dropped, Ends, Goes_on, IsNoTree, IsPrepared, Makes, MakesAt, NextInput, Nothing_left, Opened, Passed, Reuses, Take, Takes_token, Tries, kinds_of}
