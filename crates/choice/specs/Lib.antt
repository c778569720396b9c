pub mod Places
pub mod Losses
pub mod Offers
pub mod Choices
