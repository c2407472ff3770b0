-- Facts about these definitions, for the proofs of this crate and of crates that use it. No contract cites them.
pub mod Changes
pub mod InNameOrder
pub mod MapTables
pub mod NameSets
pub mod RisingNames
pub mod Tables
pub mod Updating
