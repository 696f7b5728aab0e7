pub mod Sentence
pub mod internal
