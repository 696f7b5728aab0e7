pub mod Transcribe
pub mod Promise
pub mod internal
