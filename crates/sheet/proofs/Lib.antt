pub mod Answering
pub mod Heads
pub mod Lawfully
pub mod Numbers
pub mod Steps
pub mod Wholes
