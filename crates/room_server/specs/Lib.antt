pub mod Fronts
pub mod Inner
pub mod Openings
pub mod Pools
pub mod Prelude
pub mod Seats
pub mod Tables
