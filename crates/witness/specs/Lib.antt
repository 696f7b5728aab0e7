pub mod Lines
pub mod Starred
pub mod Example
pub mod Needed
