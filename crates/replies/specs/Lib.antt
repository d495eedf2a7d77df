pub mod Ids
pub mod Replies
pub mod Sending
pub use Rattle.definitions.specs.declared.Diagnostic
pub use Rattle.definitions.specs.declared.Range
pub use Rattle.definitions.specs.declared.Stats
pub use Rattle.definitions.specs.declared.Unit
pub use Rattle.serde_json.specs.Written
