pub mod Examples
pub mod Facts
pub mod Inner
pub mod Lists
pub mod Rising
