-- Definitions for the crate's own functions and for proofs: the view of a desk's first seat, what a seat learns from
-- each kind of step, how seats are split and met, and the contracts of the steps' functions.
pub mod Opening
pub mod Plays
pub mod Sharing
pub mod Steps
