pub mod Effect
pub mod Laws
