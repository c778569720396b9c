pub mod Lines
pub mod Crowds
pub mod Books
pub mod Audits
pub mod Runs
