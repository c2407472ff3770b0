-- Facts about the definitions, for the proofs here and in crates that use this one. No contract cites them.
pub mod Numbered
pub mod OneMore
pub mod Rising
