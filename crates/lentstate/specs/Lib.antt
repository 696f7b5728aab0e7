pub mod State
pub mod internal
pub mod Laws
