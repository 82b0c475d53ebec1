pub mod Handled
pub mod Marked
pub mod Supplied
