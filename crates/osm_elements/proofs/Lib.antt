pub mod Buffers
pub mod KeyedPlaces
pub mod KeyedSearch
pub mod Letters
pub mod MadeElements
pub mod MapRows
pub mod ShortRoles
