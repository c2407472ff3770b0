-- Definitions for private functions, for `lookup::lesser` and for proofs.
pub mod Least
pub mod Moves
pub mod Moving
pub mod Purging
pub mod Retagging
