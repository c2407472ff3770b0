-- Definitions for private functions, for the invariant of `Store` and for proofs.
pub mod Applying
pub mod References
pub mod Stores
