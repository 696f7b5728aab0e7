pub mod PassLaws
pub mod TimetableLaws
pub mod TraceLaws
