pub mod Page
pub mod Setup
