pub mod Callers
pub mod Events
pub mod Facts
pub mod Inner
pub mod NewsTexts
pub mod Prelude
pub mod Rooms
pub mod Running
