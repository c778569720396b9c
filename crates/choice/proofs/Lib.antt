pub mod Labels
pub mod Widened
pub mod Firsts
pub mod Lowest
pub mod Weighing
pub mod Candidates
pub mod Rises
