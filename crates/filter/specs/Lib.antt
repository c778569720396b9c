pub mod Surveys
pub mod Entries
