pub mod KeepsRule
pub mod Drained
pub mod NewSeats
pub mod Keys
