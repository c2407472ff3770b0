pub mod Examples
pub mod Facts
pub mod Inner
pub mod Numbered
pub mod Prelude
pub mod Stacks
