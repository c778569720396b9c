pub mod Parts
pub mod Mixing
pub mod Moves
