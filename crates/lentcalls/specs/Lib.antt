pub mod Calls
pub mod Laws
