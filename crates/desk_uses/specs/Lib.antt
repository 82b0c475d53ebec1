pub mod Filled
pub mod Used
