pub mod LoopLaws
pub mod FastRun
