pub mod Draws
pub mod Records
pub mod Checksums
pub mod Domains
