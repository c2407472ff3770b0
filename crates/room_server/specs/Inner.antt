pub mod NewNames
pub mod Opened
pub mod Parts
