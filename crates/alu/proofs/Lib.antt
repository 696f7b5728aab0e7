pub mod Computes
pub mod Overflow
pub mod StatusBits
