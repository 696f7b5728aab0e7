pub mod Choices
pub mod Finding
pub mod NumberLaws
