pub mod Planned
pub mod Turns
