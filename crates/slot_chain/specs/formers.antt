pub mod link
