pub mod JudgeLaws
pub mod CauseLaws
pub mod SideLaws
