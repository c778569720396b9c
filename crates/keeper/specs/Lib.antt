pub mod Ranks
pub mod Least
pub mod Leasts
pub mod Keeping
