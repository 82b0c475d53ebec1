pub mod Whole
pub mod LentFloors
