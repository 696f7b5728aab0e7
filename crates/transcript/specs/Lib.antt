pub mod Put
pub mod Transcript
