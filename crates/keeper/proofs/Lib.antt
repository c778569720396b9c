pub mod Orders
pub mod Filters
pub mod Sorts
pub mod Puts
pub mod Shuffles
pub mod Leasts
pub mod Keepers
pub mod Passes
