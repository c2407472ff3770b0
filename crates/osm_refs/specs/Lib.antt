pub mod Changes
pub mod Examples
pub mod Facts
pub mod Inner
pub mod Prelude
pub mod References
pub mod Rising
pub mod Tables
