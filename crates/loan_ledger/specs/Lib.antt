pub mod Weights
pub mod Accounts
pub mod Tokens
pub mod Loans
