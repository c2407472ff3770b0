pub mod Coordinate
pub mod Examples
pub mod Form
pub mod Latitude
pub mod Longitude
pub mod Range
pub mod Written
