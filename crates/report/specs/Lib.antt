pub mod Numbers
pub mod Faults
pub mod Columns
pub mod Lines
pub mod Readers
pub mod Whole
