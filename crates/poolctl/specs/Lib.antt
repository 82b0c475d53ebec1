pub mod Outcomes
pub mod Classes
pub mod Commands
pub mod Lines
pub mod Routes
pub mod Works
