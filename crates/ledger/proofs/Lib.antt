pub mod Ranges
pub mod Entering
pub mod Losses
