pub mod Table
pub mod Words
pub mod internal
pub mod Laws
