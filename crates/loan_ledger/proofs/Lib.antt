pub mod Sums
pub mod Views
pub mod Keeps
pub mod Steps
pub mod Sent
pub mod Made
pub mod Trading
pub mod Travels
