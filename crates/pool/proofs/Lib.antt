pub mod Scans
pub mod Passes
pub mod Rows
