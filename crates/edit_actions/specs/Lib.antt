pub mod After
pub mod Examples
pub mod Facts
pub mod Prelude
pub mod Refusals
