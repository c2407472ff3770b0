pub mod Admitting
pub mod Conversing
pub mod Hearing
pub mod Prelude
pub mod Sending
pub mod Serving
pub mod Timely
