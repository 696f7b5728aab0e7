pub mod Arithmetic
pub mod Status
pub mod Laws
pub mod Starred
