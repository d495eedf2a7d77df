-- What the proofs of this crate cite of definitions, of types and of the repository's crates, passed on from one place. Declares nothing.
pub use Rattle.definitions.specs.Trees.{Grammar, HasProduction, left_of, production_of, right_of}
pub use Rattle.definitions.specs.declared.Symbol.{Symbol}
pub use Rattle.definitions.specs.declared.Symbol.TheVariants.{Nonterminal, Rule as Terminal}
pub use Rattle.productions.specs.First.{AreClosed, AreExact, AreTrue, Means, begin_by, holds_by, nullable_by, off, on, unmarked}
pub use Rattle.productions.specs.Lookaheads.{lookahead_at, rank}
pub use Rattle.productions.specs.Productions.{IsKnown, IsSound, Shape}
pub use Rattle.productions.specs.Symbols.{number, symbol_of}
pub use Rattle.theory.specs.First.{After, At_once, Drop, InFirst, IsNullable, MayFollow, None_left, Within}
