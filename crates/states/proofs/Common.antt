-- What the proofs of this crate cite of definitions, of types and of the repository's crates, passed on from one place. Declares nothing.
pub use Rattle.definitions.specs.Items.{Accept, HasItem, HasMove, Move, Reduce, Shift}
pub use Rattle.definitions.specs.Sentences.{IsViable}
pub use Rattle.definitions.specs.Trees.{Branch, Forest, Grammar, HasProduction, HaveRoots, Leaf, Tree, forest, trees}
pub use Rattle.definitions.specs.declared.Kind.{Kind}
pub use Rattle.definitions.specs.declared.Kind.TheVariants.{Rule as TokenRule}
pub use Rattle.definitions.specs.declared.Symbol.{Symbol}
pub use Rattle.definitions.specs.declared.Symbol.TheVariants.{Nonterminal, Rule as Terminal}
pub use Rattle.parser.proofs.Moves.{run_on, states_push, top_stands}
pub use Rattle.parser.proofs.Reductions.{state_under, states_after}
pub use Rattle.parser.specs.Machine.{HasStates}
pub use Rattle.tables.specs.Actions.{plain as plain_move}
pub use Rattle.tables.specs.Tables.{IsAccepted, IsStateOf, Sets}
pub use Rattle.theory.proofs.Sets.{goto_there}
pub use Rattle.theory.proofs.Simulation.{length-roots, roots-append, run_join}
pub use Rattle.theory.proofs.Stack.{Handle, accept_stack, handle}
pub use Rattle.theory.proofs.StackIsRead.{roots-forest}
pub use Rattle.theory.proofs.Theorems.{move_iff_viable}
pub use Rattle.theory.proofs.Unique.{roots_unique}
pub use Rattle.theory.proofs.Verdicts.{after_viable, stuck_at_kind, viable_prefix}
pub use Rattle.theory.specs.Machine.{IsStackAfter, Reduced, Reduces, Run, Shifts, Stay}
pub use Rattle.states.specs.Piles.{AreStatesAfter, AreStatesOn}
