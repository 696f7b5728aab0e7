pub mod Fields
pub mod Instruction
pub mod Laws
