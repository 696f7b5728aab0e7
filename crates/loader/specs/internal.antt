-- What no promise to a caller rests on.
pub mod Record
