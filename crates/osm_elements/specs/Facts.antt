-- Facts about these definitions, for the proofs of this crate and of crates that use it. No contract cites them.
pub mod Among
pub mod Dropped
pub mod Entries
pub mod KeyedRows
pub mod MadeMaps
pub mod NameOrder
pub mod NameTexts
pub mod Names
pub mod Nodes
pub mod Rows
pub mod SameNames
pub mod Tests
