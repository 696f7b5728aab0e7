pub mod StepResult
