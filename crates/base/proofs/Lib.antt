pub mod Tests
pub mod Refusals
pub mod KeptLaws
