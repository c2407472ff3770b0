pub mod CatchingUp
pub mod Coming
pub mod Making
pub mod Replying
pub mod Told
