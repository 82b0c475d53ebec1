pub mod Weights
pub mod Limits
pub mod Seats
pub mod Opened
pub mod Accounts
pub mod Posts
pub mod Balances
