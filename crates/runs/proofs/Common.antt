-- What the proofs of this crate cite of definitions, of types and of the repository's crates, passed on from one place. Declares nothing.
pub use Rattle.seqtree.proofs.Gaps.{filled_between}
pub use Rattle.seqtree.proofs.Joined.{cut_at_end, cut_in, in_order, inside, none_after, past_chunk, prefix-le, prefix-more, whole_at, within_chunks}
pub use Rattle.runs.specs.Counted.{counted, join_three, most, nothing}
pub use Rattle.runs.specs.Runs.{flattened}
pub use Rattle.runs.specs.declared.counted.Counted.{Counted}
pub use Rattle.seqtree.proofs.FirstReached.{not_earlier}
pub use Rattle.seqtree.proofs.Totals.{total-append}
pub use Rattle.seqtree.specs.Goal.{IsLeast}
pub use Rattle.seqtree.specs.Monoid.{MonoidLaws, total}
pub use Rattle.seqtree.specs.Saturated.{saturated, saturated-exact}
