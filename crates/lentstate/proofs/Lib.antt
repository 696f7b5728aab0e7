pub mod LentLaws
pub mod NumberLaws
pub mod FlagLaws
