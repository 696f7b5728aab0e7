pub mod Sections
pub mod Fields
pub mod Rules
pub mod Access
pub mod Laws
pub mod Starred
