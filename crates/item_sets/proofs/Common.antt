-- What the proofs of this crate cite of definitions, of types and of the repository's crates, passed on from one place. Declares nothing.
pub use Rattle.definitions.proofs.Ordered.{Contains-cases, same_elements}
pub use Rattle.definitions.specs.Derivations.{first}
pub use Rattle.definitions.specs.Items.{HasItem, HaveSameItems, IsValid, Item as LrItem}
pub use Rattle.definitions.specs.Sentences.{AllProductive}
pub use Rattle.definitions.specs.Trees.{Grammar, HasProduction, left_of, right_of, trees}
pub use Rattle.definitions.specs.declared.Symbol.{Symbol}
pub use Rattle.definitions.specs.declared.Symbol.TheVariants.{Nonterminal, Rule, Rule as Terminal}
pub use Rattle.productions.proofs.Columns.{column_there, rank-lookahead_at}
pub use Rattle.productions.proofs.EachMore.{each_more}
pub use Rattle.productions.proofs.Follows.{follows_first, follows_nothing}
pub use Rattle.productions.proofs.FollowsInRange.{may_known}
pub use Rattle.productions.proofs.Numbers.{has_production, production_below, production_is}
pub use Rattle.productions.proofs.SymbolNumbers.{number-symbol_of, symbol_of-number}
pub use Rattle.productions.specs.Lookaheads.{lookahead_at, rank}
pub use Rattle.productions.specs.Productions.{IsKnown, IsSound, Shape}
pub use Rattle.productions.specs.Symbols.{number, symbol_of}
pub use Rattle.item_sets.specs.Collection.{AreStates, Found, GoesOn, IsAbsent, IsLed, IsReached, IsStep, Placed, kernel_at, origin_at}
pub use Rattle.item_sets.specs.Order.{Below, IsBefore, IsInside, IsOrdered, IsRising}
pub use Rattle.item_sets.specs.Sets.{Closed, IsIn, IsItem, Kernel, after_dot, item_of, side}
pub use Rattle.item_sets.specs.States.{HasKernel, HasSet, IsKernelAfter, IsSetOf, Shifted, ShiftsUpTo, step}
pub use Rattle.item_sets.specs.Worklist.{AreCalledFor, AreMarked, CallFor, Entries, HaveBeginnings, IsCalledFor, IsExpanded, IsGrownBy, beginning_of, marked, unmarked_in}
pub use Rattle.item_sets.specs.contracts.item.ItemPartialEq.TheImpl.{ghosts}
pub use Rattle.item_sets.specs.declared.collection.Origin.{Origin}
pub use Rattle.item_sets.specs.declared.item.Item.{Item}
pub use Rattle.item_sets.specs.declared.worklist.Entry.{Entry}
pub use Rattle.theory.proofs.FirstLemmas.{HasTrees, first_by_rules, first_of_rules}
pub use Rattle.theory.proofs.Rules.{rules_valid, valid_rules}
pub use Rattle.theory.proofs.Sets.{Back, closed_set, goto_back, kernel_shows, not_empty}
pub use Rattle.theory.proofs.Simulation.{roots-trees}
pub use Rattle.theory.proofs.StackIsRead.{right_trees}
pub use Rattle.theory.specs.Closure.{ByRules, Close, Goto, IsFirst, IsKernel, Start}
pub use Rattle.theory.specs.First.{MayFollow}
