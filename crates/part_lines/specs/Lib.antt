pub mod Applying
pub mod Prelude
