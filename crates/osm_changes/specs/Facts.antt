-- Facts about these definitions, for the proofs of this crate and of crates that use it. No contract cites them.
pub mod Cells
pub mod Changing
pub mod Differing
pub mod DifferingRows
pub mod Halves
pub mod PassingRows
pub mod RowChanges
pub mod SameElements
pub mod SoundRows
