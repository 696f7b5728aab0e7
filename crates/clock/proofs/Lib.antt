pub mod UpcomingLaws
pub mod NoEventLaws
