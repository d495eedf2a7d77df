-- What the proofs of this crate cite of definitions, of types and of the repository's crates, passed on from one place. Declares nothing.
pub use Rattle.definitions.proofs.TextLaws.{IsCharacter-from_scalar}
pub use Rattle.definitions.proofs.TokensKept.{AreTokens-drop, boundaries-end, drop-edit, length-boundaries, length-edit}
pub use Rattle.definitions.proofs.TokensLead.{GoOn, before_rejoin, chars, chars-cons, chars_from, leads_inside, leads_join, leads_more, leads_split, leads_tokens, length-placed, placed_at, prefix_before, prefix_leads}
pub use Rattle.definitions.proofs.TokensLocal.{length-le-reach}
pub use Rattle.definitions.proofs.TokensUnique.{IsPiece-inside}
pub use Rattle.definitions.specs.Patterns.{Matches}
pub use Rattle.definitions.specs.Text.{IsCharacter, IsText, edit}
pub use Rattle.definitions.specs.TokenEdits.{IsSpliced, Splice, gone, is_rejoined, kept_before, made as made_by, plain_splice, rejoin, same_kind, same_kinds, splice}
pub use Rattle.definitions.specs.Tokens.{AreTokens, IsPiece, IsReach, IsRulePrefix, IsToken, Leads, Placed, Token as PlainToken, boundaries, is_skipped, kinds, placed}
pub use Rattle.definitions.specs.declared.Edit.{Edit}
pub use Rattle.definitions.specs.declared.Kind.{Kind}
pub use Rattle.definitions.specs.declared.Kind.TheVariants.{Invalid, Rule}
pub use Rattle.definitions.specs.declared.expression.Expression.{Expression}
pub use Rattle.dfa.proofs.LongestMatch.{Ends, best_more_none, best_more_some, best_none, more_dead, more_first, more_prefix, more_state, piece_of, prefixes_more, reach_of, state_after-none}
pub use Rattle.grammar.specs.Lexicon.{Lexicon}
pub use Rattle.dfa.specs.Matches.{IsBest}
pub use Rattle.dfa.specs.Positions.{HasMoreStatesThan}
pub use Rattle.dfa.specs.Table.{IsAutomaton, Table, follower, kind_of, state_after}
pub use Rattle.dfa.specs.Windows.{IsWithinReach}
pub use Rattle.grammar.specs.Grammars.{lexicon_of}
pub use Rattle.lexer.specs.Rescans.{AreRescanned, AreTokensAfter, IsEdited, IsNeeded, IsReachedByMade, IsRemade, change, plain_all, prefix_end, significant_kinds}
pub use Rattle.lexer.specs.Scans.{AreMade, AreNext}
pub use Rattle.lexer.specs.Sums.{joined, later_end, most, no_tokens, token_sum}
pub use Rattle.lexer.specs.Tokens.{Fits, TokenList, characters, is_significant, kind_in, plain}
pub use Rattle.lexer.specs.Walks.{IsPassed, IsWalk, Spot, horizon}
pub use Rattle.lexer.specs.declared.sums.Sums.{Sums}
pub use Rattle.lexer.specs.declared.sums.Token.{Token}
pub use Rattle.seqtree.specs.Monoid.{total}
pub use Rattle.seqtree.specs.Saturated.{saturated, saturated-exact}
