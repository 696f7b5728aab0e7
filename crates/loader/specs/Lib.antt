pub mod Setup
pub mod internal
