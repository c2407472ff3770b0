pub mod Clients
pub mod Inner
pub mod Mirrors
pub mod Prelude
