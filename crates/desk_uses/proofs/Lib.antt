pub mod Begun
pub mod Given
pub mod Homes
pub mod LifeLaws
