pub mod Captures
pub mod Headers
pub mod Layers
pub mod Protocols
