pub mod Sets
pub mod Worklist
pub mod States
pub mod Order
pub mod Collection
