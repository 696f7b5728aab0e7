pub mod FastLaws
pub mod FastSteps
pub mod FastTable
