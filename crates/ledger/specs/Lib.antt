pub mod Entries
pub mod Losses
