pub mod Arguments
pub mod CommandLines
pub mod Conflicts
pub mod Status
pub mod Texts
pub mod Refusals
pub mod Parsing
pub mod Reporting
