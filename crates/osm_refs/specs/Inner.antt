-- The representation of users. No contract of a public function cites it.
pub mod Turned
