-- What the proofs of this crate cite of definitions, of types and of the repository's crates, passed on from one place. Declares nothing.
pub use Rattle.grammar_line.specs.Kept.{texts}
pub use Rattle.grammar_line.specs.Statements.{is_right_word}
pub use Rattle.grammar_line.specs.Words.{Word, is_blank, is_filled, is_letter, is_mark, is_marked, is_name, is_name_byte, last_byte, mark_at, mark_of, or_nothing, plain, trim_end, trim_start, without_last}
pub use Rattle.grammar_line.specs.declared.right_word.Mark.TheVariants.{Any, AtLeastOnce, AtMostOnce, Once}
