pub mod Advance
pub mod Digits
pub mod Outcomes
pub mod Parsed
pub mod ReadOn
pub mod Starts
pub mod Wholes
pub mod Written
