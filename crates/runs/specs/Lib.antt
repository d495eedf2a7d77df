pub mod Counted
pub mod Laws
pub mod Runs
pub use Rattle.seqtree.specs.Monoid
