pub mod Examples
pub mod Views
