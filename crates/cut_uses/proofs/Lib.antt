pub mod Made
pub mod Ends
pub mod Two
