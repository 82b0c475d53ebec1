pub mod Rule
pub mod Steps
pub mod States
pub mod Remains
pub mod Reading
pub mod Order
