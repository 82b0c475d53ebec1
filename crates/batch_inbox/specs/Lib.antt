pub mod Limits
pub mod Refusals
pub mod Views
pub mod Order
pub mod States
pub mod Taking
