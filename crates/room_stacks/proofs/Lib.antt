pub mod Entering
pub mod Numbering
pub mod Readying
pub mod Rewriting
pub mod Searching
pub mod Spending
