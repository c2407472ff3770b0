-- Facts about these definitions, for the proofs of this crate and of crates that use it. No contract cites them.
pub mod ChangesInTurn
pub mod Checked
pub mod Creating
pub mod Deleting
pub mod Differences
pub mod EachRow
pub mod FirstUsers
pub mod Kinds
pub mod LeastNames
pub mod Lists
pub mod Moving
pub mod Purging
pub mod Relisting
pub mod Retagging
pub mod Rewriting
pub mod SameMaps
pub mod Soundness
