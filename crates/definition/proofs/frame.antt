pub mod RegisterFrame
pub mod TimeFrame
pub mod FrameLaws
