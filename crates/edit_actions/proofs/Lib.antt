pub mod Planned
pub mod Retagged
