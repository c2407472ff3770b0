-- Facts about these definitions, for the proofs of this crate and of crates that use it. No contract cites them.
pub mod Rising
pub mod Rows
pub mod Searching
pub mod Sorted
pub mod Steps
pub mod Tables
pub mod Walking
