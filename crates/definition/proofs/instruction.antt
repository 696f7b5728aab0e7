pub mod InstructionLaws
pub mod ActLaws
pub mod MemoryLaws
