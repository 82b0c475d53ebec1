pub mod ByClassLaws
pub mod DeskLaws
pub mod HandleLaws
pub mod HomeLaws
pub mod ListedLaws
pub mod EndLaws
pub mod SetLaws
pub mod Travels
