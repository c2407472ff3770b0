pub mod Entering
pub mod MemberNames
mod SameReferences
pub mod Turning
