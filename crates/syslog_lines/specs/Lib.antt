pub mod Pieces
pub mod Marks
pub mod Priorities
pub mod Heads
pub mod Texts
pub mod Objects
