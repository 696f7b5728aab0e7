pub mod Encoding
pub mod Cycles
pub mod Words
pub mod Laws
pub mod Starred
