pub mod Computes
pub mod Loaded
pub mod Pairs
pub mod Example
pub mod WithoutWay
pub mod WithoutRegisters
pub mod WithoutOwnCycles
pub mod WaitsCounted
