-- Definitions for private functions. No public contract cites them.
pub mod Searching
pub mod Touching
