pub mod Edits
pub mod Examples
pub mod Facts
pub mod Groups
pub mod Laws
pub mod Plans
pub mod Prelude
