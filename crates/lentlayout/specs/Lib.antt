pub mod Layout
pub mod Access
pub mod Fault
pub mod Laws
