pub mod Limits
pub mod Audit
pub mod Tallies
