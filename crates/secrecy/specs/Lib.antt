pub mod Calls
pub mod Sighting
pub mod Visit
pub mod Secrecy
pub mod Duration
