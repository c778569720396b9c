pub mod Writing
pub mod Places
pub mod Releases
pub mod Views
pub mod Housing
pub mod Within
pub mod Calls
pub mod Replays
