pub mod Places
pub mod Stored
pub use Rattle.definitions.specs.Text
pub use Rattle.definitions.specs.declared.Position
pub use Rattle.definitions.specs.declared.Range
pub use Rattle.definitions.specs.declared.Unit
