pub mod StepLaws
pub mod CycleLaws
pub mod TouchLaws
pub mod GieLaws
pub mod NothingDueLaws
pub mod TwelveLaws
