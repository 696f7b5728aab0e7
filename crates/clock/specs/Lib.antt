pub mod Upcoming
pub mod Trace
pub mod Requests
pub mod NoEvent
