-- Facts about the definitions, for the proofs here and in crates that use this one. No contract cites them.
pub mod BothTags
pub mod Changing
pub mod EachBut
pub mod Fitting
pub mod Joining
pub mod Lists
pub mod Merging
pub mod Refusing
pub mod Renaming
pub mod SplitJoined
pub mod Splitting
pub mod Staying
pub mod TagValues
pub mod Ungluing
