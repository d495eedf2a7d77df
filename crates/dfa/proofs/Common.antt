-- What the proofs of this crate cite of definitions, of types and of the repository's crates, passed on from one place. Declares nothing.
pub use Rattle.definitions.proofs.TextLaws.{IsCharacter-from_scalar}
pub use Rattle.definitions.proofs.TokensLocal.{IsRulePrefix-take}
pub use Rattle.definitions.specs.Patterns.{IsJoin, IsNonemptyJoin, IsPrefix, Matches, is_in_class, is_member, is_within}
pub use Rattle.definitions.specs.Spelling.{Address, IsWellMade}
pub use Rattle.definitions.specs.Text.{IsCharacter, IsText}
pub use Rattle.definitions.specs.Tokens.{IsPiece, IsReach, IsRulePrefix, RuleMatches}
pub use Rattle.definitions.specs.declared.expression.Expression.{Expression}
pub use Rattle.definitions.specs.declared.expression.Expression.TheVariants.{Choice', Class, Literal, Optional', Plus', Sequence', Star'}
pub use Rattle.definitions.specs.declared.expression.Interval.{Interval}
pub use Rattle.dfa.specs.Alphabet.{after, all_cuts, class_cuts, cut, cuts, literal_cuts, representative}
pub use Rattle.dfa.specs.Built.{AreEntries, ArePartsOf, AreRows, AreRules, AreStates, Grows, IsAbsent, IsNumber, IsReached, IsStateOf, LeadsTo, Placed, kept, members}
pub use Rattle.dfa.specs.Marks.{all_holders, all_next, all_positions, ends, first_end, holders, literal_end, literal_holders, literal_next, mark, marked, next, successor, unmarked}
unfoldable pub use Rattle.dfa.specs.Marks.{marks_of}
pub use Rattle.dfa.specs.Matches.{IsBest, IsNoted}
pub use Rattle.dfa.specs.Positions.{CanStandAt, HasMoreStatesThan, HasPosition, HaveSamePositions, StandsAt, Then, positions}
pub use Rattle.dfa.specs.Sets.{AllMade, Among, AreBlank, AreMarksOf, IsSetOf, Rises}
pub use Rattle.dfa.specs.Stored.{IsAsciiRow, IsState, IsStored, ascii_entry, table_of}
pub use Rattle.dfa.specs.Table.{IsAscending, IsAutomaton, IsFirst, IsTable, Stays, Table, follower, kind_of, next_state, numbered, part, state_from, width}
unfoldable pub use Rattle.dfa.specs.Table.{state_after}
pub use Rattle.dfa.specs.Trees.{AreTreesOf, IsCounted, IsJoined, IsLiteralTree, IsTree, IsTreeOf, all_counts, all_tree_next, any_mark, count, first_tree_end, listed, tree_ends, tree_next}
pub use Rattle.dfa.specs.Windows.{IsWithinReach}
pub use Rattle.dfa.specs.declared.automaton.Match.{Match}
pub use Rattle.dfa.specs.declared.automaton.State.{State}
pub use Rattle.dfa.specs.declared.tree.Tree.{Tree}
pub use Rattle.dfa.specs.declared.tree.Tree.TheVariants.{Pair', Position}
pub use Rattle.dfa.specs.declared.build.DfaFault.TheVariants.{TooManyStates}
