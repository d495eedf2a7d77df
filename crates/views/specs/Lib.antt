pub mod Roots
pub mod Around
pub mod Folds
pub mod NodesFrom
pub mod Views
