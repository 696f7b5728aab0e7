pub mod PartLaws
pub mod CourseLaws
pub mod PageLaws
