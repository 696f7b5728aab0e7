pub mod Computes
pub mod instruction
pub mod time
pub mod cause
pub mod step
pub mod frame
pub mod run
pub mod separation
