pub mod Computes
pub mod Words
