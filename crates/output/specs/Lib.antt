pub mod Output
pub mod Open
pub mod Laws
