pub mod Numbers
pub mod Escapes
pub mod Bytes
pub mod Parts
