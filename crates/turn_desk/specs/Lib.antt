pub mod History
pub mod Desk
pub mod Rule
pub mod Inner
