pub mod FirstUsers
