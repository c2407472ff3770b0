-- Definitions for private functions. No public contract cites them.
pub mod Joining
pub mod Merging
pub mod Splitting
pub mod Ungluing
