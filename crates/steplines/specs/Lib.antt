pub mod Page
pub mod internal
