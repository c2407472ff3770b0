-- Definitions for private functions. No public contract cites them, and no definition outside this folder uses them.
pub mod Changers
pub mod Deeds
pub mod Holders
pub mod Kept
pub mod Origins
pub mod Rooms
pub mod Telling
pub mod Undoing
