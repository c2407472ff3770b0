-- Definitions for private functions. No public contract cites them, and no definition outside this folder uses them.
pub mod Kept
pub mod Lists
pub mod SpentIds
