pub mod Ascii
pub mod Padding
