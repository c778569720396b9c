pub mod Means
pub mod KeptBoxes
pub mod Ledgers
